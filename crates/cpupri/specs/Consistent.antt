-- A record that is consistent in itself.
unfoldable pub use Rattle.whole.specs.Whole.{same}
unfoldable pub use Rattle.consistency.specs.Consistent.{level_fits, fit_from, levels_fit, agrees, consistent}
pub use Rattle.consistency.specs.Consistent.{Sized, Consistent}
