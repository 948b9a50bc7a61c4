-- `decoding::item::item_at` meets its contract.
-- Assumes nothing.
use mathlib.Core.Path.{sym}
use Prim.Native.Nat.{◌≤◌, ◌<◌}
use native.Mathlib.Omega.{arith}
use lib.ListN.{length, get_or}
use Rattle.recording.specs.Layout.{body_length}
use Rattle.decoding.proofs.Items.{item_over, item_one_more, item_unknown, item_cut, item_event}
use Rattle.decoding.proofs.Layouts.{Known, known_is, body_most}
use Rattle.decoding.proofs.item.item_at.Goals.{Else-l-eq0}
use Rattle.decoding.proofs.item.item_at.Goals as goal

-- the kind is known
module _ (c : Else-l-eq0) where
  known : Known c.layout_of-l.result
  known =
      let k = c in
      known_is (get_or k.args.bytes.now k.args.at 0) k.layout_of-l.result k.layout_of-l.ensures k.if-l-eq0.false

  short : body_length c.layout_of-l.result ≤ 18
  short = body_most c.layout_of-l.result known

  within : c.args.at < length c.args.bytes.now
  within = omega (arith, c.if-len-at.false)

pub returns-then-len-at : goal.returns-then-len-at
returns-then-len-at c = let x = c.args in sym (item_over x.room x.at x.bytes.now c.if-len-at.true)

pub returns-then-room-eq0 : goal.returns-then-room-eq0
returns-then-room-eq0 c =
    let x = c.args in
    sym (item_one_more x.room x.at x.bytes.now c.if-room-eq0.true (omega (arith, c.if-len-at.false)))

pub returns-then-l-eq0 : goal.returns-then-l-eq0
returns-then-l-eq0 c =
    let x = c.args in
    let here : x.at < length x.bytes.now = omega (arith, c.if-len-at.false) in
    sym (item_unknown x.room x.at x.bytes.now c.layout_of-l.result c.if-room-eq0.false here c.layout_of-l.ensures c.if-l-eq0.true)

pub returns-then-len-at-2 : goal.returns-then-len-at-2
returns-then-len-at-2 c =
    let x = c.args in
    sym (item_cut x.room x.at x.bytes.now c.layout_of-l.result c.if-room-eq0.false (within (goal.at.returns-then-len-at-2 c).Else-l-eq0) c.layout_of-l.ensures c.if-l-eq0.false c.if-len-at-2.true)

pub returns : goal.returns
returns c =
    let x = c.args in
    sym (item_event x.room x.at x.bytes.now c.layout_of-l.result c.if-room-eq0.false (within (goal.at.returns c).Else-l-eq0) c.layout_of-l.ensures c.if-l-eq0.false
    (omega (arith, c.if-len-at-2.false)) c.decode-event.result c.decode-event.ensures)
