-- The layouts by kind: their widths, and that a known kind has a task or a CPU.
-- Assumes nothing.
use mathlib.Core.Path.{◌≡◌, refl, sym, ap, subst, ◌∙◌}
use mathlib.Core.List.{List, [], ◌∷◌}
use mathlib.Core.Logic.{inl, inr}
use mathlib.Core.Option.{Option, none, some}
use Prim.Native.Nat.{ℕ, zero, suc, ◌≤◌, ◌<◌}
use native.Mathlib.Nat.{not-suc-le-zero, le_of_suc-le-suc}
use native.Mathlib.Omega.{arith}
use lib.ListN.{length, get_elem?}
use Rattle.recording.specs.declared.Layout.{Layout}
use Rattle.recording.specs.Layout.{layouts, layout_of, widths, body_length}
use Rattle.decoding.specs.Fields.{Fields, Wide, widths_of}

-- what the decoder relies on, of a kind that is known
pub record Known (l : Layout) : Type 0 where
  pub some_who : 1 ≤ l.who
  pub fields : Fields l

narrow : (w a b : ℕ) → 1 ≤ w → w ≤ 2 → a ≤ 2 → b ≤ 2 → Known (widths w a b 0)
narrow w a b h k i j = record { some_who = h; fields = record { who = k; a = i; b = j; mask = inl refl } }

masked : (w a b : ℕ) → 1 ≤ w → w ≤ 2 → a ≤ 2 → b ≤ 2 → Known (widths w a b 8)
masked w a b h k i j = record { some_who = h; fields = record { who = k; a = i; b = j; mask = inr refl } }

-- what is known of a kind's layout: there is none, or it is as the decoder wants it
abbrev Seen : Option Layout → Type 0
Seen none = Unit {0}
Seen (some l) = Known l

abbrev All : List Layout → Type 0
All [] = Unit {0}
All (l ∷ ls) = Known l × All ls

of_all : (ls : List Layout) → All ls → (i : ℕ) → Seen (get_elem? ls i)
of_all [] h i = tt
of_all (l ∷ ls) h zero = h.0
of_all (l ∷ ls) h (suc i) = of_all ls h.1 i

task_known : Known (widths 2 0 0 0)
task_known = narrow 2 0 0 (omega arith) (omega arith) (omega arith) (omega arith)

cpu_known : Known (widths 1 0 0 0)
cpu_known = narrow 1 0 0 (omega arith) (omega arith) (omega arith) (omega arith)

all_known : All layouts
all_known =
    let add = masked 2 1 1 (omega arith) (omega arith) (omega arith) (omega arith) in
    let priority = narrow 2 0 1 (omega arith) (omega arith) (omega arith) (omega arith) in
    let affinity = masked 2 0 0 (omega arith) (omega arith) (omega arith) (omega arith) in
    let ordinary = narrow 1 0 1 (omega arith) (omega arith) (omega arith) (omega arith) in
    (add, (task_known, (task_known, (task_known, (priority, (affinity, (cpu_known, (cpu_known, (ordinary, (cpu_known, (cpu_known, tt)))))))))))

seen : (k : ℕ) → Seen (layout_of k)
seen zero = tt
seen (suc i) = of_all layouts all_known i

pub layout_none : (k : ℕ) → (widths_of (layout_of k)).who ≡ 0 → layout_of k ≡ none
layout_none k h = go (layout_of k) (seen k) h
  where
    go : (o : Option Layout) → Seen o → (widths_of o).who ≡ 0 → o ≡ none
    go none s e = refl
    go (some l) s e = absurd (let z = s.some_who in omega (arith, z, e))

pub layout_some : (k : ℕ) → ((widths_of (layout_of k)).who ≡ 0 → ⊥) → (layout_of k ≡ some (widths_of (layout_of k))) × Known (widths_of (layout_of k))
layout_some k h = go (layout_of k) (seen k) h
  where
    go : (o : Option Layout) → Seen o → ((widths_of o).who ≡ 0 → ⊥) → (o ≡ some (widths_of o)) × Known (widths_of o)
    go none s e = absurd (e refl)
    go (some l) s e = (refl, s)

beyond : (ls : List Layout) (i : ℕ) → length ls ≤ i → get_elem? ls i ≡ none
beyond [] i h = refl
beyond (l ∷ ls) zero h = absurd (not-suc-le-zero h)
beyond (l ∷ ls) (suc i) h = beyond ls i (le_of_suc-le-suc h)

past : {i j : ℕ} → j < i → (i ≡ suc j → ⊥) → suc j < i
past h n = omega (arith, h, n)

pub layout_unknown : (k : ℕ) → (k ≡ 1 → ⊥) → (k ≡ 2 → ⊥) → (k ≡ 3 → ⊥) → (k ≡ 4 → ⊥) → (k ≡ 5 → ⊥) → (k ≡ 6 → ⊥) → (k ≡ 7 → ⊥) → (k ≡ 8 → ⊥)
    → (k ≡ 9 → ⊥) → (k ≡ 10 → ⊥) → (k ≡ 11 → ⊥) → widths 0 0 0 0 ≡ widths_of (layout_of k)
layout_unknown zero n1 n2 n3 n4 n5 n6 n7 n8 n9 n10 n11 = refl
layout_unknown (suc i) n1 n2 n3 n4 n5 n6 n7 n8 n9 n10 n11 =
    let positive : 0 < suc i = omega arith in
    let over : 11 < suc i = past (past (past (past (past (past (past (past (past (past (past positive n1) n2) n3) n4) n5) n6) n7) n8) n9) n10) n11 in
    ap widths_of (sym (beyond layouts i (omega (arith, over))))

-- what the code asks of a kind, of the widths that it has
pub none_is : (k : ℕ) (l : Layout) → l ≡ widths_of (layout_of k) → l.who ≡ 0 → layout_of k ≡ none
none_is k l e z = layout_none k (ap (λ (x : Layout). x.who) (sym e) ∙ z)

pub some_is : (k : ℕ) (l : Layout) → l ≡ widths_of (layout_of k) → (l.who ≡ 0 → ⊥) → layout_of k ≡ some l
some_is k l e z = (layout_some k (λ y. z (ap (λ (x : Layout). x.who) e ∙ y))).0 ∙ ap (λ (x : Layout). some x) (sym e)

pub known_is : (k : ℕ) (l : Layout) → l ≡ widths_of (layout_of k) → (l.who ≡ 0 → ⊥) → Known l
known_is k l e z = subst Known (sym e) (layout_some k (λ y. z (ap (λ (x : Layout). x.who) e ∙ y))).1

-- a body is short
pub body_most : (l : Layout) → Known l → body_length l ≤ 18
body_most l k = go k.fields.mask
  where
    go : Wide l.mask → body_length l ≤ 18
    go (inl e) = let w = k.fields.who in let a = k.fields.a in let b = k.fields.b in omega (arith, e, w, a, b)
    go (inr e) = let w = k.fields.who in let a = k.fields.a in let b = k.fields.b in omega (arith, e, w, a, b)
