-- What an image of a card holds, and which refusal one gets that holds no heap. n is the device's count of sectors.
-- Assumes nothing.
use Rattle.std.specs.Prelude.{◌≡◌, ℕ, ◌+◌, ◌<◌, ◌⊎◌, List, length, None, MatchOption, ◌==◌}
use Rattle.device.specs.Sector.{payload, torn, Image}
use Rattle.layout.specs.declared.header.Header.{Header}
use Rattle.layout.specs.declared.page.Page.{Page}
use Rattle.layout.specs.Geometries.{root_of, IsPage}
use Rattle.layout.specs.Pages.{Lawful}
use Rattle.layout.specs.Bodies.{body_bytes}
use Rattle.layout.specs.Homes.{home_bytes}
use Rattle.image.specs.declared.refusal.ImageRefusal.{ImageRefusal}
use Rattle.image.specs.declared.refusal.ImageRefusal.TheVariants.{Torn, NoHeader, LaterEpoch, Unlawful, Dangling}
use Rattle.image.specs.Headers.{IsHeaderIn, IsHeaderOf, NoneLater, FirstLater}
use Rattle.image.specs.Logs.{In, Change, IsLog, last_record}
use Rattle.image.specs.Heaps.{Heap, page_of, NoneDangles, FirstDangling}

-- its header is h, no sector of the log shows a later epoch, and ts are the committed transactions of the log
pub record Reads (n : ℕ) (σ : Image) (h : Header) (ts : List (List Change)) : Type 0 where
  pub header : IsHeaderOf n σ h
  pub none_later : NoneLater σ h
  pub log : IsLog (In σ) h ts

-- the page of sector s has this body: that of its last committed record, or else its home's
abbrev pub HasBody : Image → List (List Change) → ℕ → List ℕ → Type 0
HasBody σ ts s body =
    MatchOption (last_record s ts) (σ s ≡ payload (home_bytes s body)) (λ b. body ≡ b)

-- the page of sector s is p, and lawful
abbrev pub IsPageAt : Image → Header → List (List Change) → ℕ → Page → Type 0
IsPageAt σ h ts s p = Lawful (s == root_of h.geometry) p × HasBody σ ts s (body_bytes p)

-- the heap that the image shows, lawful in every page; whether each reference has its object is not said yet
pub record Shows (n : ℕ) (σ : Image) (H : Heap) : Type 0 where
  pub header : Header
  pub log : List (List Change)
  pub read : Reads n σ header log
  pub transactions : H.transactions ≡ header.transactions + length log
  pub root : H.root ≡ root_of header.geometry
  pub sectors : H.root + length H.pages ≡ n
  pub pages : (s : ℕ) → IsPage header.geometry s → IsPageAt σ header log s (page_of H s)

-- the image holds the heap
pub record Holds (n : ℕ) (σ : Image) (H : Heap) : Type 0 where
  pub shows : Shows n σ H
  pub none_dangles : NoneDangles H

-- the page of sector s is the first that is not lawful
pub record FirstFault (σ : Image) (h : Header) (ts : List (List Change)) (s : ℕ) : Type 0 where
  pub page : IsPage h.geometry s
  pub fault : (p : Page) → ¬ IsPageAt σ h ts s p
  pub before : (t : ℕ) → IsPage h.geometry t → t < s → (p : Page) × IsPageAt σ h ts t p

-- no committed record has the page of sector s, and its home is torn
abbrev pub IsTornHome : Image → List (List Change) → ℕ → Type 0
IsTornHome σ ts s = (last_record s ts ≡ None) × (σ s ≡ torn)

-- The refusal that the image gets: the first that applies, in this order.
--   There is no valid header.
--   A sector of the log shows a later epoch; the lowest is told.
--   A page is not lawful; the first is told. Either its home is torn and no committed record has the page, or else what the page's body
--   should be is no lawful body there, or the home's bytes before it are not those of a home of this sector.
--   A reference has no object; the first in the first page with one is told.
abbrev pub Judged : ℕ → Image → ImageRefusal → Type 0
Judged n σ NoHeader = (h : Header) → ¬ IsHeaderIn n σ h
Judged n σ (LaterEpoch s) = (h : Header) × IsHeaderOf n σ h × FirstLater σ h s
Judged n σ (Torn s) = (h : Header) × ((ts : List (List Change))
    × Reads n σ h ts × FirstFault σ h ts s × IsTornHome σ ts s)
Judged n σ (Unlawful s) = (h : Header) × ((ts : List (List Change))
    × Reads n σ h ts × FirstFault σ h ts s × ¬ IsTornHome σ ts s)
Judged n σ (Dangling s j) = (H : Heap) × Shows n σ H × FirstDangling H s j

-- An image holds one heap at most.
abbrev pub AtMostOneHeap : Type 0
AtMostOneHeap = (n : ℕ) (σ : Image) (H K : Heap) → Holds n σ H → Holds n σ K → H ≡ K

-- No image gets two refusals.
abbrev pub AtMostOneRefusal : Type 0
AtMostOneRefusal = (n : ℕ) (σ : Image) (q r : ImageRefusal) → Judged n σ q → Judged n σ r → q ≡ r

-- An image that holds a heap gets no refusal.
abbrev pub NotBoth : Type 0
NotBoth = (n : ℕ) (σ : Image) (H : Heap) (r : ImageRefusal) → Holds n σ H → ¬ Judged n σ r

-- Every image holds a heap, or gets a refusal.
abbrev pub AlwaysOne : Type 0
AlwaysOne = (n : ℕ) (σ : Image) → ((H : Heap) × Holds n σ H) ⊎ ((r : ImageRefusal) × Judged n σ r)
