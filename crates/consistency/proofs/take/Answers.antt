-- `consistency::take` meets its contract.
-- Assumes nothing.
use Rattle.std.proofs.Common.{◌≡◌, ℕ, ◌+◌, ◌-◌, ◌%◌, ◌^◌, ◌<◌, ◌≤◌, true, List, length, get_or, set, sym, subst, arith}
use Rattle.levels.specs.Level.{level_count}
use Rattle.consistency.specs.Gathered.{Gathers}
use Rattle.consistency.proofs.Taken.{take_none, take_level, count_small}
use Rattle.consistency.proofs.take.Goals.{Else-level, Start}
use Rattle.consistency.proofs.take.Goals as goal

-- the places that are passed
places : (c : Start) → c.args.cpu + c.args.more ≤ length c.args.from.now
places c = omega (arith, c.requires.from_len, c.requires.le_more.1)

-- the level, which is one here
level : (c : Else-level) → let x = c.args in get_or x.from.now x.cpu 0 < level_count
level c = c.if-level.false

pub returns-then-level : goal.returns-then-level
returns-then-level c =
    let x = c.args in
    take_none x.from.now x.cpu x.more c.requires.le_more.0 (places (goal.at.returns-then-level c).Start) c.requires.alike c.requires.gathered x.left.now c.if-level.true

-- what is taken out of a mask, put back, makes the mask
put_back : (mask cpus : ℕ) → mask < 2 ^ 64 → cpus < 2 ^ 64 → ((mask + (2 ^ 64 - cpus)) % 2 ^ 64 + cpus) % 2 ^ 64 ≡ mask
put_back mask cpus h k = omega arith

pub returns : goal.returns
returns c =
    let x = c.args in
    let v = get_or x.from.now x.cpu 0 in
    let w = (get_or x.left.now v 0 + (2 ^ 64 - x.cpus)) % 2 ^ 64 in
    subst (λ (ws : List ℕ). Gathers x.from.now x.cpu (x.cpu + x.more) true x.left.now (set x.left.now v w)
    (set x.counts.now v (get_or x.counts.now v 0 + x.more)) ws) (sym c.mark.ensures)
    (take_level x.from.now x.cpu x.more c.requires.le_more.0 (places (goal.at.returns c).Start) c.requires.alike c.requires.gathered x.cpus w c.requires.le_more.2 (omega arith) x.left.now (level (goal.at.returns c).Else-level)
    (put_back (get_or x.left.now v 0) x.cpus (c.fits-left v) c.ranges.cpus.fits))

pub overflow_add-counts : goal.overflow_add-counts
overflow_add-counts c =
    let x = c.args in
    omega (arith, c.requires.from_len, count_small x.from.now x.cpu x.more c.requires.le_more.0 (places (goal.at.overflow_add-counts c).Start) c.requires.alike c.requires.gathered (level (goal.at.overflow_add-counts c).Else-level))
