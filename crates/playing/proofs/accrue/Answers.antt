-- `playing::accrue` meets its contract.
-- Assumes nothing.
use Rattle.std.proofs.Common.{◌≡◌, ℕ, ◌+◌, ◌<◌, eqb, List, length, get_or, take, set, sym, ap, ◌∙◌, add-one, arith, take_all}
use Rattle.recording.specs.Replay.{accrued}
use Rattle.playing.proofs.Accruing.{accrued_start, accrued_later, accrued_turn, share_most}
use Rattle.playing.proofs.accrue.Goals as goal

pub loop-c-init : goal.loop-c-init
loop-c-init c = accrued_start c.args.d c.args.counts.now c.args.times.now

pub loop-c-preserved : goal.loop-c-preserved
loop-c-preserved c =
    let x = c.args in
    let l = c.loop-c in
    let same : get_or l.times l.c 0 ≡ get_or x.times.now l.c 0 =
    ap (λ (ts : List ℕ). get_or ts l.c 0) l.invariant ∙ accrued_later x.d x.counts.now x.times.now l.c in
    let got = c.share.ensures in
    let small = c.requires.counts_len_bound in
    let long : length x.times.now ≡ 64 = c.requires.times_len in
    let here : l.c < length x.counts.now = omega arith in
    let there : l.c < length x.times.now = omega (arith, long, small, here) in
    (λ i. set (l.invariant i) l.c (same i + got i)) ∙ accrued_turn x.d x.counts.now x.times.now l.c here there
    ∙ ap (λ (k : ℕ). accrued x.d (take k x.counts.now) x.times.now) (sym (add-one l.c))

pub returns : goal.returns
returns c =
    let x = c.args in
    let l = c.loop-c in
    l.invariant ∙ ap (λ (ks : List ℕ). accrued x.d ks x.times.now) (take_all l.c x.counts.now (omega arith))

pub overflow_add-times : goal.overflow_add-times
overflow_add-times c =
    let x = c.args in
    let l = c.loop-c in
    let same : get_or l.times l.c 0 ≡ get_or x.times.now l.c 0 =
    ap (λ (ts : List ℕ). get_or ts l.c 0) l.invariant ∙ accrued_later x.d x.counts.now x.times.now l.c in
    let most = share_most (eqb (get_or x.counts.now l.c 0) 0) x.d in
    let got = c.share.ensures in
    let room = c.requires.room l.c in
    let small = c.requires.d_bound in
    omega (arith, same, most, got, room, small)
