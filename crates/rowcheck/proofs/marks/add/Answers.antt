-- `rowcheck::marks::add` meets its contract. Assumes nothing.
use mathlib.Core.Path.{◌≡◌, sym, ap, ◌∙◌}
use mathlib.Core.Bool.{false, not}
use Prim.Native.Nat.{ℕ, ◌/◌, ◌%◌, ◌<◌}
use lib.ListN.{length, get_or, set}
use native.Mathlib.Omega.{arith}
use Rattle.rowcheck.specs.Placed.{marked, mark}
use Rattle.rowcheck.proofs.Saying.{never}
use Rattle.rowcheck.proofs.Marking.{mark_more}
use lib.ListN.{length-set}
use Rattle.bits.specs.Bit.{bit}
use Rattle.rowcheck.proofs.marks.add.Goals as goal

pub returns-then-test_bit : goal.returns-then-test_bit
unfolding marked
returns-then-test_bit c = record {
  value = sym (ap not (sym c.test_bit.ensures ∙ c.if-test_bit.true));
  joined = λ e. never e;
}

pub returns : goal.returns
unfolding marked
returns c =
    let a = c.args in
    let marks = a.marks.now in
    let size : length marks ≡ 8 = c.requires.marks_len in
    let task : a.task < 512 = omega arith in
    let free : bit (get_or marks (a.task / 64) 0) (a.task % 64) ≡ false = sym c.test_bit.ensures ∙ c.if-test_bit.false in record {
      value = ap not (sym free);
      joined = λ e. (
        length-set marks (a.task / 64) c.set_bit.result ∙ size,
        λ u. ap (λ (w : ℕ). mark (set marks (a.task / 64) w) u) c.set_bit.ensures ∙ mark_more marks a.task (omega arith) free u,
      );
    }
