-- `consistency::absent` meets its contract.
-- Assumes nothing.
use Rattle.std.proofs.Common.{◌≡◌, ℕ, min, List, length, sym, ap, ◌∙◌}
use Rattle.whole.specs.Whole.{same, invalid_from}
use Rattle.whole.proofs.From.{from_bounded}
use Rattle.consistency.proofs.absent.Goals as goal

-- there are no places past the last
bounded : (n start : ℕ) (xs : List ℕ) → length xs ≡ 64 → start ≡ min n 64 → same xs (invalid_from start xs) ≡ same xs (invalid_from n xs)
bounded n start xs len e = ap (same xs) (from_bounded n start xs (e ∙ ap (min n) (sym len)))

pub returns : goal.returns
returns c =
    c.each_invalid.ensures ∙ bounded c.args.n c.places-start.result c.args.levels.now c.requires c.places-start.ensures
