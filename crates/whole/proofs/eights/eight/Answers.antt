-- `whole::eights::eight` meets its contract.
-- Assumes nothing.
use mathlib.Core.Path.{◌≡◌}
use Prim.Native.Nat.{◌+◌, ◌*◌}
use lib.ListN.{get_or}
use native.Mathlib.Omega.{arith}
use Rattle.whole.proofs.Numbers.{number_four, number_eight}
use Rattle.whole.proofs.eights.eight.Goals as goal

pub returns : goal.returns
returns c =
    let s = c.args.s.now in
    let at = c.args.at in
    let five : at + 4 + 1 ≡ at + 5 = omega arith in
    let six : at + 4 + 2 ≡ at + 6 = omega arith in
    let seven : at + 4 + 3 ≡ at + 7 = omega arith in
    let high : get_or s (at + 4) 0 + 256 * (get_or s (at + 4 + 1) 0 + 256 * (get_or s (at + 4 + 2) 0 + 256 * get_or s (at + 4 + 3) 0))
    ≡ get_or s (at + 4) 0 + 256 * (get_or s (at + 5) 0 + 256 * (get_or s (at + 6) 0 + 256 * get_or s (at + 7) 0)) =
    rw (five, six, seven) in
    omega (arith, c.from_le_bytes.ensures, number_eight s at, number_four s at, number_four s (at + 4), high)
