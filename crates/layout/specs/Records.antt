-- The bytes of the records of the log, and as what a log sector is read.
-- Assumes nothing.
use Rattle.std.specs.Prelude.{◌≡◌, ◌≢◌, ℕ, ◌≤◌, List, ◌∷◌, [], ◌++◌, drop}
use Rattle.layout.specs.declared.geometry.Geometry.{Geometry}
use Rattle.layout.specs.declared.record.Record.{Record}
use Rattle.layout.specs.declared.record.Record.TheVariants.{Page, Commit, Neither}
use Rattle.layout.specs.Geometries.{IsPage}
use Rattle.layout.specs.Numbers.{two, four, zeros}
use Rattle.layout.specs.Kinds.{page_record_kind, commit_record_kind}

-- a page record of epoch e at position p: the page whose home is sector s has this body
unfoldable pub page_record_bytes : ℕ → ℕ → ℕ → List ℕ → List ℕ
page_record_bytes e p s body = page_record_kind ∷ 0 ∷ [] ++ two p ++ four e ++ four s ++ body

-- a commit record of epoch e at position p: it ends a transaction of n page records, which is number k
unfoldable pub commit_record_bytes : ℕ → ℕ → ℕ → ℕ → List ℕ
commit_record_bytes e p n k = commit_record_kind ∷ 0 ∷ [] ++ two p ++ four e ++ four n ++ four k
    ++ zeros 44

-- a transaction has eight page records at most
abbrev pub most_records : ℕ
most_records = 8

-- b are the bytes of no record on a card of this geometry
pub record IsNoRecord (g : Geometry) (b : List ℕ) : Type 0 where
  pub no_page : (e p s : ℕ) (body : List ℕ) → IsPage g s → page_record_bytes e p s body ≢ b
  pub no_commit : (e p n k : ℕ) → n ≤ most_records → commit_record_bytes e p n k ≢ b

-- what a log sector with the bytes b is read as: the body of a page record is bytes 12 to 59 of the sector
abbrev pub ReadsAs : Geometry → List ℕ → Record → Type 0
ReadsAs g b (Page r) = IsPage g r.home
    × (page_record_bytes r.epoch r.position r.home r.body.now ≡ b) × (r.body.now ≡ drop 12 b)
ReadsAs g b (Commit r) = (r.pages ≤ most_records)
    × (commit_record_bytes r.epoch r.position r.pages r.number ≡ b)
ReadsAs g b Neither = IsNoRecord g b
