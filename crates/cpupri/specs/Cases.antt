-- Cases of the finder. The papers' words stand above each; the answers are written out.
-- Assumes nothing.
use Rattle.std.specs.Prelude.{List, [], ◌∷◌, ◌++◌, ℕ, replicate}
use Rattle.levels.specs.Record.{lent_record, record_of}
use Rattle.levels.specs.declared.record.Record.{Record}
use Rattle.cpupri.specs.Found.{Answer, answer_of, found}

pub record FinderCase : Type 0 where
  pub n : ℕ
  pub cpupri : Record
  pub level : ℕ
  pub mask : ℕ
  pub expected : Answer

abbrev pub asked : FinderCase → Answer
asked k = answer_of (found k.n k.cpupri k.level k.mask)

-- asked for a level below l among the CPUs of the mask k, it answers the number a, the level v and the mask u, and has read so many masks
abbrev pub finds : ℕ → Record → ℕ → ℕ → ℕ → ℕ → ℕ → ℕ → FinderCase
finds n r l k a v u read = record { n = n; cpupri = r; level = l; mask = k; expected = record { number = a; level = v; mask = u; read = read } }

-- the record of CPUs at these levels
abbrev pub two : ℕ → ℕ → Record
two a b = record_of (a ∷ b ∷ replicate 62 255)

abbrev pub four : ℕ → ℕ → ℕ → ℕ → Record
four a b c d = record_of (a ∷ b ∷ c ∷ d ∷ replicate 60 255)

-- one that is consistent with nothing
abbrev pub no_record : Record
no_record = lent_record [] [] [] []

-- "it answers the lowest level below the asked one that has an allowed CPU, with those CPUs as a mask, or none, exactly if there is no such level";
-- "None is answer 0 with level 255 and mask 0; a refusing finder gives its number with the same 255 and 0." Refused in order: 1, 2, "finder: the
-- record is inconsistent in itself"; 7, "finder: level over 101"; 8, "mask 0, or a bit at N or above"
abbrev pub answers : List FinderCase
answers =
    finds 2 (two 101 1) 101 3 0 1 2 1 ∷ finds 2 (two 101 1) 101 1 0 255 0 1 ∷ finds 0 no_record 102 0 1 255 0 0 ∷ finds 65 no_record 102 0 1 255 0 0
    ∷ finds 2 no_record 102 0 2 255 0 0 ∷ finds 2 (two 101 1) 102 0 7 255 0 0 ∷ finds 2 (two 101 1) 101 4 8 255 0 0 ∷ finds 2 (two 101 1) 101 0 8 255 0 0 ∷ []

-- L8: "a record may now hold INVALID below N, for offline CPUs only (the finder takes any)"
abbrev pub offline : List FinderCase
offline = finds 2 (two 255 1) 101 3 0 1 2 1 ∷ finds 2 (two 255 1) 101 1 0 255 0 1 ∷ finds 2 (two 255 255) 101 3 0 255 0 0 ∷ []

-- L4: "Give also how many masks the search read: one for each level with a CPU below the asked one, up to the answered one (all of them on none, 0 on
-- a refusal)"; two CPUs at one level have one mask, and levels lie on both sides of the words' border
abbrev pub masks_read : List FinderCase
masks_read =
    finds 4 (four 70 0 5 101) 101 1 0 70 1 3 ∷ finds 4 (four 70 0 5 101) 101 8 0 255 0 3 ∷ finds 4 (four 70 0 5 101) 101 7 0 0 2 1
    ∷ finds 4 (four 70 0 5 101) 101 5 0 5 4 2 ∷ finds 4 (four 70 0 5 101) 70 1 0 255 0 2 ∷ finds 4 (four 70 0 5 101) 71 1 0 70 1 3
    ∷ finds 4 (four 70 0 5 101) 5 4 0 255 0 1 ∷ finds 4 (four 70 0 5 101) 0 15 0 255 0 0 ∷ finds 4 (four 63 63 64 64) 65 12 0 64 12 2
    ∷ finds 4 (four 63 63 64 64) 64 12 0 255 0 1 ∷ finds 4 (four 63 63 64 64) 63 15 0 255 0 0 ∷ finds 4 (four 3 3 3 255) 4 8 0 255 0 1 ∷ []

abbrev pub finder_cases : List FinderCase
finder_cases = answers ++ offline ++ masks_read
