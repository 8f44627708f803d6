-- What a program in C is told of the check of a row image. Assumes nothing.
use Rattle.std.specs.Prelude.{◌≢◌, ℕ, ◌%◌, ◌<◌, ◌⊎◌, List, [], ◌∷◌, ◌++◌, length, take, replicate, Ok, Err, Result}
use Rattle.media.specs.Rows.{rows_mean}
use Rattle.image.specs.declared.counts.Counts.{Counts}
use Rattle.model.specs.declared.refusal.Refusal.{Refusal}
use Rattle.model.specs.Refusals.{told}
use Rattle.audit.specs.declared.error.CheckError.{CheckError}
use Rattle.audit.specs.Errors.{of_check}
use Rattle.audit.specs.Checks.{Checks}

-- the number that is returned: 0 for a heap, or the refusal's
abbrev pub number_of : Result Counts CheckError → ℕ
number_of (Ok _) = 0
number_of (Err e) = (told (of_check e)).number

-- the values that are told: the heap's four numbers; or those of the refusal, and 0 where it has fewer than four
abbrev pub four_of : Refusal → List ℕ
four_of q = take 4 ((told q).values ++ replicate 4 0)

abbrev pub values_of : Result Counts CheckError → List ℕ
values_of (Ok c) = c.transactions ∷ c.free_pages ∷ c.objects ∷ c.reachable ∷ []
values_of (Err e) = four_of (of_check e)

-- the memory m is no card's, or there is no room for four values in ts
abbrev pub Unfit : List ℕ → List ℕ → Type 0
Unfit m ts = (length m % 64 ≢ 0) ⊎ (length ts < 4)

-- r is what the check answers over the row image in memory m, with marks ms and numbers ns before, and ms' and ns' after
abbrev pub ChecksRows : List ℕ → List ℕ → List ℕ → List ℕ → List ℕ → Result Counts CheckError
    → Type 0
ChecksRows m ms ms' ns ns' r = Checks (rows_mean m) (rows_mean m) ms ms' ns ns' r
