-- The CPU-priority record that a list of levels determines.
unfoldable pub use Rattle.levels.specs.Record.{table, mask_at, count_at, masks_of, counts_of, words_of, record_of, fresh_levels}
pub use Rattle.levels.specs.Record.{active, lent_record, Whole}
