-- Levels of a CPU.
pub use Rattle.levels.specs.Level.{level_count, word_count, cpu_places, idle, ordinary, unused, invalid, level_of}
unfoldable pub use Rattle.levels.specs.Level.{known}
