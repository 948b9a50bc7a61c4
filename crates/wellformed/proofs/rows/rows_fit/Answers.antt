-- `wellformed::rows::rows_fit` meets its contract. The loop's invariant: the rows passed are right, and the set has the tasks that stand in
-- them. Assumes nothing.
use mathlib.Core.Path.{◌≡◌, refl, sym, ap, ◌∙◌, subst}
use mathlib.Core.Bool.{true, cond}
use Rattle.bits.specs.Bit.{bit}
use Rattle.rules.specs.Machine.{invalid}
use Prim.Native.Nat.{ℕ, ◌+◌, ◌*◌, ◌<◌}
use lib.ListN.{length, get_or, drop}
use mathlib.Core.List.{List}
use native.Mathlib.Omega.{arith}
use lib.ListN.{length-drop}
use lib.Seq.{length-take-le}
use borrow.Author.Count.{below_more}
use Rattle.rowcheck.specs.Placed.{marked, mark, Once, Marks, Row}
use Rattle.wellformed.specs.Passes.{part, standings}
use Rattle.rowcheck.proofs.Saying.{yes, no}
use Rattle.rowcheck.proofs.Marking.{digit_le}
use Rattle.wellformed.proofs.Standing.{mark_none, part_is, standings_none, standings_next, standings_grows}
use Rattle.wellformed.proofs.rows.rows_fit.Goals.{After-row_fits, In-loop-c}
use Rattle.wellformed.proofs.rows.rows_fit.Goals as goal

none : {k : ℕ} → k < 0 → ⊥
none h = omega arith

part_long : (rows : List ℕ) (n c : ℕ) → length rows ≡ 512 * n → c < n → length (part rows c) ≡ 512
part_long rows n c e h = length-take-le 512 (drop (512 * c) rows) (simp length-drop (omega arith))

within : (c : In-loop-c) → let k = c in k.loop-c.c < k.args.n
within c = omega arith

-- ---- the row that is looked at

module _ (c : After-row_fits) where
  -- W3 to W6 of it, where r is the row
  abbrev Right : List ℕ → Type 0
  Right r =
      let k = c in
      let a = k.args in
      let i = k.loop-c.c in
      Row a.state.now a.prio.now a.cpu.now r i (get_or a.counts.now i 0) (get_or a.flags.now i 0) k.idle_level-idle.result (get_or a.levels.now i 0)

  -- the level that its CPU has without a task
  abbrev Is-right : List ℕ → Type 0
  Is-right r =
      let k = c in
      let a = k.args in
      let i = k.loop-c.c in
      Row a.state.now a.prio.now a.cpu.now r i (get_or a.counts.now i 0) (get_or a.flags.now i 0) (cond (bit a.online i) (get_or a.flags.now i 0) invalid) (get_or a.levels.now i 0)

  by_idle : (r : List ℕ) → (Right r → Is-right r) × (Is-right r → Right r)
  by_idle r =
      let k = c in
      let a = k.args in
      let i = k.loop-c.c in
      let P : ℕ → Type 0 = λ x. Row a.state.now a.prio.now a.cpu.now r i (get_or a.counts.now i 0) (get_or a.flags.now i 0) x (get_or a.levels.now i 0) in
      (subst P k.idle_level-idle.ensures, subst P (sym k.idle_level-idle.ensures))

-- ---- the needs
pub loop-c-init : goal.loop-c-init
loop-c-init c =
    let a = c.args in
    (refl, (λ k h. absurd (none h)), λ u. mark_none u ∙ sym (standings_none a.counts.now a.rows.now u))

pub idle_level-idle-requires : goal.idle_level-idle-requires
idle_level-idle-requires c = omega (arith, c.requires)

pub row_fits-requires : goal.row_fits-requires
row_fits-requires c =
    let l = c.loop-c in
    let n = c.args.n in
    let rows = c.args.rows.now in
    let whole : length rows ≡ 512 * n = c.requires.rows_len.0 in
    let below : l.c < n = omega arith in record {
      state_len = c.requires.state_len;
      row_len = (ap length (part_is rows l.c) ∙ part_long rows n l.c whole below, l.invariant.0);
    }

pub returns-then-not-row_fits : goal.returns-then-not-row_fits
returns-then-not-row_fits c =
    let l = c.loop-c in
    let rows = c.args.rows.now in
    let counts = c.args.counts.now in
    let call = c.row_fits in record {
      right = λ p.
          no call.result call.ensures.says c.if-not-row_fits.true (
            (by_idle (goal.at.returns-then-not-row_fits c).After-row_fits _).1 (subst (Is-right (goal.at.returns-then-not-row_fits c).After-row_fits) (sym (part_is rows l.c)) (p.row l.c (within (goal.at.returns-then-not-row_fits c).In-loop-c))),
            subst (λ (r : List ℕ). Once l.marks r (get_or counts l.c 0)) (sym (part_is rows l.c))
                (λ u. omega (arith, l.invariant.2 u, standings_next counts rows u l.c, standings_grows counts rows u (l.c + 1) c.args.n (omega (arith, within (goal.at.returns-then-not-row_fits c).In-loop-c)), p.once u)),
          );
      placed = tt;
    }

pub loop-c-preserved : goal.loop-c-preserved
loop-c-preserved c =
    let l = c.loop-c in
    let rows = c.args.rows.now in
    let counts = c.args.counts.now in
    let call = c.row_fits in
    let ok : call.result ≡ true = c.if-not-row_fits.false in
    let good = yes call.result call.ensures.says ok in
    let joined = subst (λ (r : List ℕ). Marks l.marks r (get_or counts l.c 0) c.row_fits.new.marks) (part_is rows l.c) (call.ensures.marks ok) in (
      joined.0,
      below_more _ _ l.invariant.1 (subst (Is-right (goal.at.loop-c-preserved c).After-row_fits) (part_is rows l.c) ((by_idle (goal.at.loop-c-preserved c).After-row_fits _).0 good.0)),
      λ u. omega (arith, joined.1 u, l.invariant.2 u, standings_next counts rows u l.c),
    )

pub returns : goal.returns
returns c =
    let l = c.loop-c in
    let n = c.args.n in
    let rows = c.args.rows.now in
    let counts = c.args.counts.now in
    let all : l.c ≡ n = omega arith in
    let counted : (u : ℕ) → mark l.marks u ≡ standings counts rows n u = λ u. l.invariant.2 u ∙ ap (λ (i : ℕ). standings counts rows i u) all in record {
      right = record { row = λ i h. l.invariant.1 i (omega arith); once = λ u. omega (arith, counted u, digit_le (marked l.marks u)) };
      placed = counted;
    }
