-- `maker::make_fresh_lent` meets its contract.
-- Assumes nothing.
use mathlib.Core.Path.{refl, sym, ◌∙◌}
use Rattle.lenttables.specs.Lent.{lent, sizes_fit}
use Rattle.rules.specs.Tables.{Tables}
use Rattle.laws.proofs.Entry.{lengths_shape, made_refused}
use Rattle.maker.proofs.Blank.{made_blank}
use Rattle.maker.proofs.make_fresh_lent.Goals.{Start}
use Rattle.maker.proofs.make_fresh_lent.Goals as goal

-- what the caller lent
module _ (c : Start) where
  abbrev tables : Tables
  tables =
      let x = c.args in
      lent x.full x.state.now x.policy.now x.prio.now x.cpu.now x.slice.now x.mask.now x.rows.now x.counts.now x.flags.now x.online.now x.log.now

pub returns-then-not-sizes_fit : goal.returns-then-not-sizes_fit
unfolding sizes_fit
returns-then-not-sizes_fit c =
    let f = c.sizes_fit in record {
      as_ruled = sym (made_refused c.args.n c.args.«record».now (tables (goal.at.returns-then-not-sizes_fit c).Start) (sym f.ensures ∙ c.if-not-sizes_fit.true));
      slice_handed_back = tt;
    }

pub all_below-requires : goal.all_below-requires
unfolding sizes_fit
all_below-requires c =
    let f = c.sizes_fit in
    let s = (lengths_shape c.args.n (tables (goal.at.all_below-requires c).Start) (sym f.ensures ∙ c.if-not-sizes_fit.false)).0 in record {
      le_k = s.some_cpu;
      k_bound = s.cpus;
    }

pub fresh-requires : goal.fresh-requires
unfolding sizes_fit
fresh-requires c =
    let f = c.sizes_fit in
    (lengths_shape c.args.n (tables (goal.at.fresh-requires c).Start) (sym f.ensures ∙ c.if-not-sizes_fit.false)).0.cpus

pub returns : goal.returns
unfolding sizes_fit
returns c =
    let f = c.sizes_fit in
    let t = c.free_tasks.new in
    let r = c.empty_rows.new in record {
      as_ruled = made_blank c.args.n c.args.«record».now c.fresh.result (tables (goal.at.returns c).Start)
          (lent c.args.full t.state t.policy t.prio t.cpu t.slice t.mask r.rows r.counts r.flags c.all_below.result r.log)
          (sym f.ensures ∙ c.if-not-sizes_fit.false)
          (record {
            full = refl;
            state = c.free_tasks.ensures.state_value;
            policy = c.free_tasks.ensures.policy_value;
            prio = c.free_tasks.ensures.prio_value;
            cpu = c.free_tasks.ensures.cpu_value;
            slice = c.free_tasks.ensures.slice_value;
            mask = c.free_tasks.ensures.mask_value;
            rows = c.empty_rows.ensures.rows_value;
            counts = c.empty_rows.ensures.counts_value;
            flags = c.empty_rows.ensures.flags_value;
            log = c.empty_rows.ensures.log_value;
            online = c.all_below.ensures;
          })
          c.fresh.ensures;
      slice_handed_back = refl;
    }
