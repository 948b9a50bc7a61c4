-- `migration::settle::settle` meets its contract.
-- Assumes nothing.
use mathlib.Core.Path.{subst}
use Rattle.hinting.specs.Hinted.{Hinted}
use Rattle.migration.proofs.Going.{to_watch}
use Rattle.migration.proofs.settle.settle.Goals as goal

pub sharpen-requires : goal.sharpen-requires
sharpen-requires c = let p = c.requires.settling in (p.0, to_watch p.1.0 p.1.1)

pub search-requires : goal.search-requires
search-requires c = record {
  settling = (c.requires.settling.0, (c.requires.settling.1.0, c.requires.settling.1.1));
  log_len = c.requires.log_len;
}

pub follow-requires : goal.follow-requires
follow-requires c =
    let p = c.requires.settling in record {
      settling = (p.0, (p.1.0, p.1.1, subst (Hinted p.0) c.in-Some.is (c.sharpen.ensures p.0 (to_watch p.1.0 p.1.1) p.1.2)));
      log_len = c.requires.log_len;
    }

pub returns-in-None : goal.returns-in-None
returns-in-None c = λ m s e h. c.search.ensures m s e

pub returns-in-Some : goal.returns-in-Some
returns-in-Some c = λ m s e h.
    c.follow.ensures m s e (subst (Hinted m) c.in-Some.is (c.sharpen.ensures m (to_watch s e) h))
