-- What the stages of an opening know of an image.
-- Assumes nothing.
use Rattle.std.specs.Prelude.{◌≡◌, ◌≢◌, ℕ, suc, ◌+◌, ◌-◌, ◌<◌, Bool, true, false, ◌⊎◌, ◌==◌, List, [], ◌∷◌, ◌++◌, length, map, take, drop, count_by, slice_index_or, Option, Some, None, MatchOption}
use Rattle.std.specs.List.{sum_by}
use Rattle.device.specs.Sector.{payload, torn, Image}
use Rattle.device.specs.Calling.{each}
use Rattle.layout.specs.declared.geometry.Geometry.{Geometry}
use Rattle.layout.specs.declared.header.Header.{Header}
use Rattle.image.specs.declared.headers.HeadersRead.{HeadersRead}
use Rattle.image.specs.declared.log.LogRead.{LogRead}
use Rattle.image.specs.declared.log.TheConstants.{LONGEST_LOG}
use Rattle.image.specs.Headers.{IsHeaderIn}
use Rattle.image.specs.Logs.{Change, span}
use Rattle.image.specs.Reading.{Reading, ReadsInOrder}
use Rattle.layout.specs.declared.page.Page.{Page}
use Rattle.layout.specs.Geometries.{root_of, IsPage}
use Rattle.layout.specs.Homes.{home_bytes}
use Rattle.layout.specs.Bodies.{body_bytes}
use Rattle.image.specs.declared.refusal.ImageRefusal.{ImageRefusal}
use Rattle.image.specs.declared.refusal.ImageRefusal.TheVariants.{Torn, NoHeader, LaterEpoch, Unlawful, Dangling}
use Rattle.image.specs.declared.judged.PagesJudged.{PagesJudged}
use Rattle.image.specs.Heaps.{Heap, page_of, is_free, objects_of}
use Rattle.image.specs.Images.{Reads, HasBody, IsPageAt, IsTornHome, Shows, Holds}

abbrev pub header_of : HeadersRead → Header
header_of x = x.header

abbrev pub log_header : LogRead → Header
log_header x = x.header

abbrev pub log_transactions : LogRead → ℕ
log_transactions x = x.transactions

-- how the card is divided under which the log was read
abbrev pub log_division : LogRead → Geometry
log_division x = x.header.geometry

-- q tells that no header of the image is valid
abbrev pub TellsNoHeader : ℕ → Image → ImageRefusal → Type 0
TellsNoHeader n σ q = (q ≡ NoHeader) × ((h : Header) → ¬ IsHeaderIn n σ h)

abbrev pub judged_log : PagesJudged → LogRead
judged_log x = x.log

-- the homes of page records, in their order
abbrev pub homes_in : List Change → List (Option ℕ)
homes_in t = map (λ c. Some c.home) t

-- of each position that the transactions take, the home of its page record; none of a commit record
abbrev pub homes_of : List (List Change) → List (Option ℕ)
homes_of [] = []
homes_of (t ∷ ts) = homes_of ts ++ homes_in t ++ None ∷ []

-- those of the positions that are committed
abbrev pub committed_homes : LogRead → List (Option ℕ)
committed_homes x = take x.committed x.homes

abbrev pub home_at : LogRead → ℕ → Option ℕ
home_at x i = slice_index_or (committed_homes x) i None

-- o is the position of the last committed record for the page of sector s, if there is one
abbrev pub IsRecordFor : LogRead → ℕ → Option ℕ → Type 0
IsRecordFor x s o = MatchOption o
    ((i : ℕ) → i < length (committed_homes x) → home_at x i ≢ Some s)
    (λ i. (i < length (committed_homes x)) × (home_at x i ≡ Some s)
    × ((k : ℕ) → i < k → k < length (committed_homes x) → home_at x k ≢ Some s))

-- the last place of a list at which s stands
abbrev pub is_home : ℕ → Option ℕ → Bool
is_home s None = false
is_home s (Some t) = t == s

abbrev pub place_behind : Option ℕ → Bool → Option ℕ
place_behind (Some i) b = Some (suc i)
place_behind None true = Some 0
place_behind None false = None

abbrev pub last_place : ℕ → List (Option ℕ) → Option ℕ
last_place s [] = None
last_place s (o ∷ os) = place_behind (last_place s os) (is_home s o)

-- the sector in which the body of the page of sector s stands: that of its last committed record, or else its home
abbrev pub sector_for : ℕ → Option ℕ → ℕ
sector_for s None = s
sector_for s (Some i) = 2 + i

abbrev pub body_sector : LogRead → ℕ → ℕ
body_sector x s = sector_for s (last_place s (committed_homes x))

-- x has the log whose committed transactions are ts
pub record IsLogOf (ts : List (List Change)) (x : LogRead) : Type 0 where
  pub committed : x.committed ≡ span ts
  pub homes : committed_homes x ≡ homes_of ts
  pub transactions : x.transactions ≡ x.header.transactions + length ts

-- x is what was read of the log of the image
pub record IsReadOf (n : ℕ) (σ : Image) (x : LogRead) : Type 0 where
  pub log : List (List Change)
  pub reads : Reads n σ x.header log
  pub has : IsLogOf log x

-- x is what was read of the log before position p
pub record HasRead (σ : Image) (h : Header) (p : ℕ) (x : LogRead) : Type 0 where
  pub header : x.header ≡ h
  pub log : List (List Change)
  pub pages : List Change
  pub reading : Reading σ h p log pages
  pub committed : x.committed ≡ span log
  pub long : length x.homes ≡ LONGEST_LOG
  pub homes : take p x.homes ≡ homes_of log ++ homes_in pages
  pub transactions : x.transactions ≡ h.transactions + length log

-- x is what was read of the log to its end, from the sectors ss
pub record HasReadAll (σ : Image) (h : Header) (ss : List ℕ) (x : LogRead) : Type 0 where
  pub header : x.header ≡ h
  pub log : List (List Change)
  pub reads : ReadsInOrder σ h log ss
  pub has : IsLogOf log x

-- x is what was read of the log of the image, first all of it and then, from the sectors ss, up to its end
abbrev pub IsReadFrom : ℕ → Image → List ℕ → LogRead → Type 0
IsReadFrom n σ ss x = (r : IsReadOf n σ x) × ReadsInOrder σ x.header r.log ss

-- q tells that the page of sector s is not lawful: its home is torn and no committed record has the page, or else it is the page's own fault
abbrev pub IsFaultOf : Image → List (List Change) → ℕ → ImageRefusal → Type 0
IsFaultOf σ ts s q = ((q ≡ Torn s) × IsTornHome σ ts s) ⊎ ((q ≡ Unlawful s) × ¬ IsTornHome σ ts s)

-- the same of a home, whatever the log has: no bytes of a home of its sector can be read there
abbrev pub NoHome : Image → ℕ → ImageRefusal → Type 0
NoHome σ s q = ((q ≡ Torn s) × (σ s ≡ torn))
    ⊎ ((q ≡ Unlawful s) × ((b : List ℕ)
    × (σ s ≡ payload b) × ((body : List ℕ) → home_bytes s body ≢ b)))

-- What is read of the page of sector s where the log is x, whatever the image is: the sector b in which its body stands, in the last 48
-- bytes; and if that is no record, it is a home of s.
abbrev pub IsBodyRead : Image → LogRead → ℕ → List ℕ → Type 0
IsBodyRead σ x s b = (σ (body_sector x s) ≡ payload b)
    × (last_place s (committed_homes x) ≡ None → home_bytes s (drop 12 b) ≡ b)

abbrev pub IsPageRead : Image → LogRead → ℕ → Page → Type 0
IsPageRead σ x s p = (b : List ℕ) × IsBodyRead σ x s b × (body_bytes p ≡ drop 12 b)

-- The pages of the card one after another: how many, the sector of each one's body, and those of the pages up to that of sector s.
abbrev pub page_count : LogRead → ℕ
page_count x = x.header.geometry.sectors - root_of x.header.geometry

abbrev pub nth_body : LogRead → ℕ → ℕ
nth_body x i = body_sector x (root_of x.header.geometry + i)

abbrev pub all_bodies : LogRead → List ℕ
all_bodies x = each (nth_body x) (page_count x)

abbrev pub bodies_to : LogRead → ℕ → List ℕ
bodies_to x s = each (nth_body x) (s + 1 - root_of x.header.geometry)

-- the refusals that a page of sector s can get by itself
abbrev pub IsPageFault : ℕ → ImageRefusal → Type 0
IsPageFault s q = (q ≡ Torn s) ⊎ (q ≡ Unlawful s)

-- the pages' sectors ss were read up to one that has such a fault
abbrev pub EndsAtFault : LogRead → List ℕ → ImageRefusal → Type 0
EndsAtFault x ss q = (s : ℕ) × IsPage x.header.geometry s × IsPageFault s q × (ss ≡ bodies_to x s)

-- What a judgement that refuses the image reads: the bodies up to that of the page that it tells of, in the first pass or in the second.
-- That a reference has no object is found in the second; that a page which passed the first has a fault then, only on another image.
abbrev pub EndsIn : LogRead → List ℕ → ℕ → Type 0
EndsIn x ss s = (ss ≡ bodies_to x s) ⊎ (ss ≡ all_bodies x ++ bodies_to x s)

abbrev pub JudgeEnds : LogRead → List ℕ → ImageRefusal → Type 0
JudgeEnds x ss (Torn s) = IsPage x.header.geometry s × EndsIn x ss s
JudgeEnds x ss (Unlawful s) = IsPage x.header.geometry s × EndsIn x ss s
JudgeEnds x ss (Dangling s j) = IsPage x.header.geometry s × (j < 10)
    × (ss ≡ all_bodies x ++ bodies_to x s)
JudgeEnds x ss NoHeader = ⊥
JudgeEnds x ss (LaterEpoch s) = ⊥

-- they were read up to the page of which a data word is told, or all if none is
abbrev pub EndsAtDangling : LogRead → List ℕ → Option (ℕ × ℕ) → Type 0
EndsAtDangling x ss o = MatchOption o (ss ≡ all_bodies x)
    (λ p. IsPage x.header.geometry p.0 × (p.1 < 10) × (ss ≡ bodies_to x p.0))

-- what is found of the page of sector s on an image whose log is x: its body, or that it has none; the page, or that none is lawful there
abbrev pub FindsBody : ℕ → Image → LogRead → ℕ → List ℕ → Type 0
FindsBody n σ x s body = (r : IsReadOf n σ x) → IsPage x.header.geometry s → HasBody σ r.log s body

abbrev pub FindsNoBody : ℕ → Image → LogRead → ℕ → ImageRefusal → Type 0
FindsNoBody n σ x s q = (r : IsReadOf n σ x) → IsPage x.header.geometry s
    → ((body : List ℕ) → ¬ HasBody σ r.log s body) × IsFaultOf σ r.log s q

abbrev pub FindsPage : ℕ → Image → LogRead → ℕ → Page → Type 0
FindsPage n σ x s p = (r : IsReadOf n σ x) → IsPage x.header.geometry s
    → IsPageAt σ x.header r.log s p

abbrev pub FindsNoPage : ℕ → Image → LogRead → ℕ → ImageRefusal → Type 0
FindsNoPage n σ x s q = (r : IsReadOf n σ x) → IsPage x.header.geometry s
    → ((p : Page) → ¬ IsPageAt σ x.header r.log s p) × IsFaultOf σ r.log s q

-- the same where each page is known to be lawful: the page is that of the heap which the image shows; or it shows none
abbrev pub FindsShown : ℕ → Image → LogRead → ℕ → Page → Type 0
FindsShown n σ x s p = (r : IsReadOf n σ x) → IsPage x.header.geometry s
    → (H : Heap) → Shows n σ H → p ≡ page_of H s

abbrev pub FindsNoneShown : ℕ → Image → LogRead → ℕ → Type 0
FindsNoneShown n σ x s = (r : IsReadOf n σ x) → IsPage x.header.geometry s
    → (H : Heap) → ¬ Shows n σ H

-- x is what was judged of an image that holds H
pub record IsJudgedOf (n : ℕ) (σ : Image) (H : Heap) (x : PagesJudged) : Type 0 where
  pub read : IsReadOf n σ x.log
  pub holds : Holds n σ H
  pub free_pages : x.free_pages ≡ count_by is_free H.pages
  pub objects : x.objects ≡ sum_by objects_of H.pages
  pub transactions : x.log.transactions ≡ H.transactions
  pub root : root_of x.log.header.geometry ≡ H.root

-- how the card is divided whose pages were judged
abbrev pub division_of : PagesJudged → Geometry
division_of x = x.log.header.geometry

-- p is the page of sector s of the heap that was judged
abbrev pub IsJudgedPage : ℕ → Image → PagesJudged → ℕ → Page → Type 0
IsJudgedPage n σ x s p = (H : Heap) → IsJudgedOf n σ H x → p ≡ page_of H s

-- the image is not the one that was judged
abbrev pub IsAnother : ℕ → Image → PagesJudged → Type 0
IsAnother n σ x = (H : Heap) → ¬ IsJudgedOf n σ H x
