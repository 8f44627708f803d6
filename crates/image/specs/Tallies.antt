-- What a tally of pages tells of them.
-- Assumes nothing.
use Rattle.std.specs.Prelude.{◌≡◌, ℕ, ◌+◌, ◌*◌, ◌<◌, ◌≤◌, ◌⊎◌, List, length, count_by, slice_index, slice_index_or}
use Rattle.std.specs.List.{sum_by}
use Rattle.layout.specs.declared.page.Page.{Page}
use Rattle.layout.specs.Bodies.{marks}
use Rattle.image.specs.declared.tally.Tally.{Tally}
use Rattle.layout.specs.declared.geometry.TheConstants.{MOST_SECTORS}
use Rattle.image.specs.Heaps.{Heap, free_page, is_free, objects_of}

abbrev pub page_at : List Page → ℕ → Page
page_at ps i = slice_index_or ps i free_page

-- t is the tally of the pages ps, of which the first is that of sector root
pub record IsTallyOf (root : ℕ) (ps : List Page) (t : Tally) : Type 0 where
  pub long : length t.marks ≡ MOST_SECTORS
  pub here : (i : ℕ) → i < length ps → slice_index t.marks (root + i) ≡ marks (page_at ps i).used 0
  pub nowhere : (s : ℕ) → (s < root) ⊎ (root + length ps ≤ s) → slice_index t.marks s ≡ 0
  pub free_pages : t.free_pages ≡ count_by is_free ps
  pub objects : t.objects ≡ sum_by objects_of ps
  pub few : t.objects ≤ 10 * length ps

-- the tally of all pages of a heap
pub record IsTallyOfHeap (H : Heap) (t : Tally) : Type 0 where
  pub of : IsTallyOf H.root H.pages t
  pub fits : H.root + length H.pages ≤ MOST_SECTORS
