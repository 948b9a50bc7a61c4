-- The two words of active levels, bit by bit: level L is bit L mod 64 of word L / 64.
-- Assumes nothing.
use Rattle.std.proofs.Common.{◌≡◌, ℕ, ◌+◌, ◌/◌, ◌%◌, ◌^◌, ◌<◌, ◌≤◌, Bool, true, false, ltb, List, [], ◌∷◌, length, get_or, take, drop, sym, refl, ap, ◌∙◌, subst, ap₂, lt_of_lt_of_le, suc-ne-zero, arith, length-drop, length-take, get_or-drop, get_or-take, pow_mono, ltb-false, ltb-true}
use native.Mathlib.Nat.{suc_inj}
use Rattle.bits.specs.Bit.{bit, packed}
use Rattle.bits.proofs.Word.{word_ext}
use Rattle.bits.proofs.Packed.{bit_packed_any, packed_lt}
use Rattle.levels.specs.Level.{level_count}
use Rattle.levels.specs.Record.{active, words_of}

module _ (cs : List ℕ) where
  low_bit : (c : ℕ) → c < 64 → bit (packed active (take 64 cs)) c ≡ active (get_or cs c 0)
  low_bit c h = bit_packed_any active 0 refl (take 64 cs) c ∙ ap active (get_or-take 64 cs c 0 h)

  high_bit : (c : ℕ) → bit (packed active (drop 64 cs)) c ≡ active (get_or cs (64 + c) 0)
  high_bit c = bit_packed_any active 0 refl (drop 64 cs) c ∙ ap active (get_or-drop 64 cs c 0)

  -- a level's bit is set exactly if it has a CPU; past the last level no bit is
  pub words_bit : (l : ℕ) → l < 128 → bit (get_or (words_of cs) (l / 64) 0) (l % 64) ≡ active (get_or cs l 0)
  unfolding words_of
  words_bit l h = go (ltb l 64) refl
    where
      go : (b : Bool) → ltb l 64 ≡ b → bit (get_or (words_of cs) (l / 64) 0) (l % 64) ≡ active (get_or cs l 0)
      go true e =
          let below : l < 64 = ltb-true l 64 e in
          let quotient : l / 64 ≡ 0 = omega arith in
          let remainder : l % 64 ≡ l = omega arith in
          ap₂ (λ (q i : ℕ). bit (get_or (words_of cs) q 0) i) quotient remainder ∙ low_bit l below
      go false e =
          let above : 64 ≤ l = ltb-false l 64 e in
          let quotient : l / 64 ≡ 1 = omega arith in
          let place : 64 + l % 64 ≡ l = omega arith in
          ap (λ (q : ℕ). bit (get_or (words_of cs) q 0) (l % 64)) quotient ∙ high_bit (l % 64) ∙ ap (λ (k : ℕ). active (get_or cs k 0)) place

  low_lt : packed active (take 64 cs) < 2 ^ 64
  low_lt =
      let size : length (take 64 cs) ≤ 64 = omega (arith, length-take 64 cs) in
      lt_of_lt_of_le (packed_lt active (take 64 cs)) (pow_mono size)

  high_lt : length cs ≡ level_count → packed active (drop 64 cs) < 2 ^ 38
  high_lt len =
      let size : length (drop 64 cs) ≤ 38 = omega (arith, length-drop 64 cs) in
      lt_of_lt_of_le (packed_lt active (drop 64 cs)) (pow_mono size)

  -- two words that have those bits are those words
  pub words_ext : (ws : List ℕ) → length ws ≡ 2 → length cs ≡ level_count → get_or ws 0 0 < 2 ^ 64 → get_or ws 1 0 < 2 ^ 64
      → ((l : ℕ) → l < 128 → bit (get_or ws (l / 64) 0) (l % 64) ≡ active (get_or cs l 0)) → ws ≡ words_of cs
  unfolding words_of
  words_ext [] two len h0 h1 b = absurd (suc-ne-zero 1 (sym two))
  words_ext (v ∷ []) two len h0 h1 b = absurd (suc-ne-zero 0 (sym (suc_inj two)))
  words_ext (v ∷ (w ∷ (u ∷ us))) two len h0 h1 b = absurd (suc-ne-zero (length us) (suc_inj (suc_inj two)))
  words_ext (v ∷ (w ∷ [])) two len h0 h1 b = ap₂ (λ (x y : ℕ). x ∷ y ∷ []) low high
    where
      low : v ≡ packed active (take 64 cs)
      low =
          word_ext 64 v (packed active (take 64 cs)) h0 low_lt (λ c h.
          let quotient : c / 64 ≡ 0 = omega arith in
          let remainder : c % 64 ≡ c = omega arith in
          let at : bit (get_or (v ∷ w ∷ []) (c / 64) 0) (c % 64) ≡ active (get_or cs c 0) = b c (omega arith) in
          let here : bit v c ≡ active (get_or cs c 0) = subst (λ (i : ℕ). bit v i ≡ active (get_or cs c 0)) remainder (subst (λ (q : ℕ). bit (get_or (v ∷ w ∷ []) q 0) (c % 64) ≡ active (get_or cs c 0)) quotient at) in
          here ∙ sym (low_bit c h))

      high : w ≡ packed active (drop 64 cs)
      high =
          word_ext 64 w (packed active (drop 64 cs)) h1 (lt_of_lt_of_le (high_lt len) (pow_mono {i = 38} {j = 64} (omega arith))) (λ c h.
          let quotient : (64 + c) / 64 ≡ 1 = omega arith in
          let remainder : (64 + c) % 64 ≡ c = omega arith in
          let at : bit (get_or (v ∷ w ∷ []) ((64 + c) / 64) 0) ((64 + c) % 64) ≡ active (get_or cs (64 + c) 0) = b (64 + c) (omega arith) in
          let here : bit w c ≡ active (get_or cs (64 + c) 0) = subst (λ (i : ℕ). bit w i ≡ active (get_or cs (64 + c) 0)) remainder (subst (λ (q : ℕ). bit (get_or (v ∷ w ∷ []) q 0) ((64 + c) % 64) ≡ active (get_or cs (64 + c) 0)) quotient at) in
          here ∙ sym (high_bit c))
