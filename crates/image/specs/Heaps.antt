-- A heap: pages with objects that refer to one another.
-- Assumes nothing.
use Rattle.std.specs.Prelude.{◌≡◌, ◌≢◌, ℕ, ◌+◌, ◌-◌, ◌<◌, ◌≤◌, Bool, true, false, ◌↔◌, List, length, replicate, count_by, slice_index_or}
use Rattle.std.specs.List.{AllPairs, Contains, sum_by}
use Rattle.layout.specs.declared.class.Class.{Class}
use Rattle.layout.specs.declared.class.Class.TheVariants.{Free}
use Rattle.layout.specs.declared.handle.Handle.{Handle}
use Rattle.layout.specs.declared.word.Word.TheVariants.{Number, Reference}
use Rattle.layout.specs.declared.page.Page.{Page}
use Rattle.layout.specs.Classes.{Takes}
use Rattle.layout.specs.Handles.{sector_of, slot_of}
use Rattle.layout.specs.Pages.{IsUsed, word_at}
use Rattle.image.specs.declared.counts.Counts.{Counts}

-- how many transactions it has seen, the sector of its root page, and its pages, the root page first
pub record Heap : Type 0 where
  pub transactions : ℕ
  pub root : ℕ
  pub pages : List Page

-- sector s is that of a page
abbrev pub HasPage : Heap → ℕ → Type 0
HasPage H s = (H.root ≤ s) × (s < H.root + length H.pages)

abbrev pub free_page : Page
free_page = record { class = Free; used = replicate 10 false; words = replicate 10 (Number 0) }

-- The page of sector s. Of a sector that is no page's it means nothing: it is a free page then, which has no object and refers to none. Who
-- speaks of it says `HasPage` too, or of a geometry `IsPage`.
abbrev pub page_of : Heap → ℕ → Page
page_of H s = slice_index_or H.pages (s - H.root) free_page

-- there is an object at the handle: in the page of its sector, in a used slot
abbrev pub HasObject : Heap → Handle → Type 0
HasObject H h = HasPage H (sector_of h) × IsUsed (page_of H (sector_of h)) (slot_of h)

-- data word j of a page refers to h
abbrev pub RefersTo : Page → ℕ → Handle → Type 0
RefersTo p j h = (j < 10) × (word_at p j ≡ Reference h)

-- data word j of a page refers to no object of the heap
abbrev pub DanglesIn : Heap → Page → ℕ → Type 0
DanglesIn H p j = (h : Handle) × RefersTo p j h × ¬ HasObject H h

-- that of the page of sector s does
abbrev pub Dangles : Heap → ℕ → ℕ → Type 0
Dangles H s j = DanglesIn H (page_of H s) j

-- each reference has its object
abbrev pub NoneDangles : Heap → Type 0
NoneDangles H = (s j : ℕ) → HasPage H s → ¬ Dangles H s j

-- the first data word, in the first page with one, that refers to no object
pub record FirstDangling (H : Heap) (s j : ℕ) : Type 0 where
  pub page : HasPage H s
  pub dangles : Dangles H s j
  pub before : (k : ℕ) → k < j → ¬ Dangles H s k
  pub pages_before : (t k : ℕ) → HasPage H t → t < s → ¬ Dangles H t k

-- a root refers to the object, or an object does that can be reached
pub data Reaches (H : Heap) : Handle → Type 0 where
  root : (j : ℕ) (h : Handle) → RefersTo (page_of H H.root) j h → Reaches H h
  object : (g : Handle) (j : ℕ) (h : Handle) → Reaches H g
      → Takes (page_of H (sector_of g)).class (slot_of g) j
      → RefersTo (page_of H (sector_of g)) j h → Reaches H h

-- n is the number of objects that can be reached: they are listed, each once
pub record CountsReached (H : Heap) (n : ℕ) : Type 0 where
  pub handles : List Handle
  pub long : length handles ≡ n
  pub once : AllPairs (λ g h. g ≢ h) handles
  pub exactly : (h : Handle) → Contains handles h ↔ Reaches H h

abbrev pub is_free_class : Class → Bool
is_free_class Free = true
is_free_class _ = false

abbrev pub is_free : Page → Bool
is_free p = is_free_class p.class

-- how many slots of a page are used
abbrev pub objects_of : Page → ℕ
objects_of p = count_by (λ u. u) p.used

-- the numbers of a heap
pub record Counted (H : Heap) (c : Counts) : Type 0 where
  pub transactions : c.transactions ≡ H.transactions
  pub free_pages : c.free_pages ≡ count_by is_free H.pages
  pub objects : c.objects ≡ sum_by objects_of H.pages
  pub reachable : CountsReached H c.reachable
