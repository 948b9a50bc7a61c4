-- `checker::check::record_fits` meets its contract: the arrays of a record have their lengths.
-- Assumes nothing.
use mathlib.Core.Path.{◌≡◌, ap, ◌∙◌}
use mathlib.Core.List.{List}
use borrow.Author.Rules.{rules}
use Prim.Native.Nat.{ℕ}
use lib.ListN.{length}
use Rattle.cpupri.specs.Consistent.{consistent}
use Rattle.cpupri.specs.Record.{lent_record}
use Rattle.checker.proofs.check.record_fits.Goals as goal

pub is_consistent-requires : goal.is_consistent-requires
is_consistent-requires c =
    let masks : length c.args.«record».now.masks ≡ 102 = search rules in
    let words : length c.args.«record».now.words ≡ 2 = search rules in record {
      masks = ap length c.as_slice-masks.ensures ∙ masks;
      counts = search rules;
      words = ap length c.as_slice-words.ensures ∙ words;
      levels = search rules;
      mask = λ l. (c.type_inv.masks l).fits;
      word = λ i. (c.type_inv.words i).fits;
    }

pub returns : goal.returns
returns c =
    let r = c.args.«record».now in
    c.is_consistent.ensures
    ∙ ap (λ (m : List ℕ). consistent c.args.n (lent_record m r.counts c.as_slice-words.result.now r.levels)) c.as_slice-masks.ensures
    ∙ ap (λ (w : List ℕ). consistent c.args.n (lent_record r.masks r.counts w r.levels)) c.as_slice-words.ensures
