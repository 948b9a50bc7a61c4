-- `decoding::first::first_of` meets its contract.
-- Assumes nothing.
use mathlib.Core.Path.{sym, ◌∙◌}
use Rattle.decoding.proofs.Firsts.{first_missing, first_plain, first_sliced, first_bad}
use Rattle.decoding.proofs.first.first_of.Goals as goal

pub returns-then-bytes-eq0 : goal.returns-then-bytes-eq0
returns-then-bytes-eq0 c = sym (first_missing c.args.bytes.now c.if-bytes-eq0.true)

pub returns-then-kind-eq-PLAIN : goal.returns-then-kind-eq-PLAIN
returns-then-kind-eq-PLAIN c = c.plain.ensures ∙ sym (first_plain c.args.bytes.now c.if-bytes-eq0.false c.if-kind-eq-PLAIN.true)

pub returns-then-kind-eq-SLICED : goal.returns-then-kind-eq-SLICED
returns-then-kind-eq-SLICED c = c.sliced.ensures ∙ sym (first_sliced c.args.bytes.now c.if-bytes-eq0.false c.if-kind-eq-SLICED.true)

pub returns : goal.returns
returns c = sym (first_bad c.args.bytes.now c.if-bytes-eq0.false c.if-kind-eq-PLAIN.false c.if-kind-eq-SLICED.false)
