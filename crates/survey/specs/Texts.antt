-- What is printed of runs and of a verdict.
-- Assumes nothing.
use Rattle.std.specs.Prelude.{ℕ, cond, List, [], ◌∷◌, ◌++◌, flat_map, ◌==◌, codes}
use Rattle.std.specs.Fmt.{decimal}
use Rattle.survey.specs.declared.condition.Run.{Run}
use Rattle.survey.specs.declared.condition.Verdict.{Verdict}
use Rattle.survey.specs.declared.condition.Verdict.TheVariants.{NoSectors, AllTorn, SomeTorn, AllBlank, AllReadable}

-- "7", or "9-11"
abbrev pub run_text : Run → List ℕ
run_text r = cond (r.first == r.last)
    (decimal r.first)
    (decimal r.first ++ codes "-" ++ decimal r.last)

-- "2-4, 7", or "none"
abbrev pub runs_text : List Run → List ℕ
runs_text [] = codes "none"
runs_text (r ∷ rs) = run_text r ++ flat_map (λ q. codes ", " ++ run_text q) rs

-- what a verdict says
abbrev pub sentence : Verdict → List ℕ
sentence NoSectors = codes "The image is empty: it has no sectors."
sentence AllTorn = codes "The card cannot be read: every sector is torn."
sentence SomeTorn = codes "The card is damaged: the torn sectors cannot be read."
sentence AllBlank = codes "The card is blank: every sector can be read and holds zeros."
sentence AllReadable = codes "The card is sound: every sector can be read."
