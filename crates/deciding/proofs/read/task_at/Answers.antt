-- `deciding::read::task_at` meets its contract. Assumes nothing.
use mathlib.Core.Path.{◌≡◌, refl, sym, subst}
use Prim.Native.Nat.{ℕ, ◌≤◌}
use lib.ListN.{get_or-eq_default}
use Rattle.rules.specs.Machine.{task_places}
use Rattle.deciding.proofs.read.task_at.Goals as goal

past : {n k : ℕ} → n ≡ task_places → task_places ≤ k → n ≤ k
past {k = k} e h = subst (λ (x : ℕ). x ≤ k) (sym e) h

pub returns-then-at-ge-PLACES : goal.returns-then-at-ge-PLACES
returns-then-at-ge-PLACES c =
    let h = c.if-at-ge-PLACES.true in
    let a = c.args in
    rw (
      get_or-eq_default a.state.now 0 (past c.requires.state_len h),
      get_or-eq_default a.policy.now 0 (past c.requires.policy_len h),
      get_or-eq_default a.prio.now 0 (past c.requires.prio_len h),
      get_or-eq_default a.cpu.now 0 (past c.requires.cpu_len h),
      get_or-eq_default a.slice.now 0 (past c.requires.slice_len h),
      get_or-eq_default a.mask.now 0 (past c.requires.mask_len h),
    ) refl
