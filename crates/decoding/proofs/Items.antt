-- What stands at a place, by the tests that the code makes in its order; and what is read from there on.
-- Assumes nothing.
use mathlib.Core.Path.{◌≡◌, refl, sym, ap, ◌∙◌}
use mathlib.Core.Bool.{Bool, cond}
use mathlib.Core.List.{List, [], ◌∷◌}
use mathlib.Core.Option.{Option, none, some}
use Prim.Native.Nat.{ℕ, zero, suc, ◌+◌, ◌-◌, ◌≤◌, ◌<◌}
use native.Mathlib.Numerals.{add-one}
use native.Mathlib.Omega.{arith}
use borrow.Author.Tests.{lt-ltb, le-ltb}
use lib.ListN.{length, get_or, drop, length-drop, drop_of_length-le}
use lib.Seq.{drop-cons}
use Rattle.std.specs.Prelude.{Ok, Err}
use Rattle.recording.specs.declared.Event.{Event}
use Rattle.recording.specs.declared.Held.{Held}
use Rattle.recording.specs.declared.Layout.{Layout}
use Rattle.recording.specs.declared.Ending.{Ending}
use Rattle.recording.specs.declared.Ending.TheVariants.{Whole, Cut, Stopped}
use Rattle.recording.specs.Layout.{layout_of, body_length, number, recorded, decoded}
use Rattle.recording.specs.Reading.{holds, bodied, item_in, no_item, item_at, ends, before, goes_on, read_from}
use Rattle.decoding.specs.Fields.{widths_of}
use Rattle.decoding.proofs.Layouts.{none_is, some_is}
use Rattle.decoding.proofs.Numbers.{number_behind}

-- ---- an item

pub item_over : (room p : ℕ) (bs : List ℕ) → length bs ≤ p → item_at room p bs ≡ Err Whole
unfolding item_at
item_over zero p bs h = ap no_item (drop_of_length-le bs {i = p} h)
item_over (suc room) p bs h = ap (item_in p) (drop_of_length-le bs {i = p} h)

pub item_one_more : (room p : ℕ) (bs : List ℕ) → room ≡ 0 → p < length bs → item_at room p bs ≡ Err Stopped
unfolding item_at
item_one_more room p bs e h = ap (λ (r : ℕ). item_at r p bs) e ∙ ap no_item (drop-cons bs p 0 h)

-- by the layout that the kind has
item_body : (room p : ℕ) (bs : List ℕ) (o : Option Layout) → (room ≡ 0 → ⊥) → p < length bs → layout_of (get_or bs p 0) ≡ o
    → item_at room p bs ≡ bodied p (get_or bs p 0) (drop (suc p) bs) o
unfolding item_at
item_body zero p bs o z h e = absurd (z refl)
item_body (suc room) p bs o z h e =
    ap (item_in p) (drop-cons bs p 0 h) ∙ ap (bodied p (get_or bs p 0) (drop (suc p) bs)) e

module _ (room p : ℕ) (bs : List ℕ) (l : Layout) (z : room ≡ 0 → ⊥) (h : p < length bs) (e : l ≡ widths_of (layout_of (get_or bs p 0))) where
  pub item_unknown : l.who ≡ 0 → item_at room p bs ≡ Err Stopped
  item_unknown n = item_body room p bs none z h (none_is (get_or bs p 0) l e n)

  module _ (k : l.who ≡ 0 → ⊥) where
    known : item_at room p bs ≡ bodied p (get_or bs p 0) (drop (suc p) bs) (some l)
    known = item_body room p bs (some l) z h (some_is (get_or bs p 0) l e k)

    left : length (drop (suc p) bs) ≡ length bs - suc p
    left = length-drop (suc p) bs

    pub item_cut : length bs - p - 1 < body_length l → item_at room p bs ≡ Err Cut
    item_cut s =
        known ∙ ap (λ (b : Bool). cond b (Err Cut) (holds (decoded (get_or bs p 0) l (drop (suc p) bs)) (p + suc (body_length l))))
        (lt-ltb (length (drop (suc p) bs)) (body_length l) (omega (arith, s, left)))

    pub item_event : body_length l ≤ length bs - p - 1 → (v : Event) → v ≡ decoded (get_or bs p 0) l (drop (p + 1) bs)
        → item_at room p bs ≡ holds v (p + 1 + body_length l)
    item_event s v d =
        let end : p + suc (body_length l) ≡ p + 1 + body_length l = omega arith in
        known ∙ ap (λ (b : Bool). cond b (Err Cut) (holds (decoded (get_or bs p 0) l (drop (suc p) bs)) (p + suc (body_length l))))
        (le-ltb (length (drop (suc p) bs)) (body_length l) (omega (arith, s, left)))
        ∙ (λ i. holds ((ap (λ (j : ℕ). decoded (get_or bs p 0) l (drop j bs)) (sym (add-one p)) ∙ sym d) i) (end i))

-- ---- an event in a body

pub decoded_is : (at k w a b m s : ℕ) (l : Layout) (bs : List ℕ) → w ≡ number (at + 4) l.who bs → a ≡ number (at + 4 + l.who) l.a bs
    → b ≡ number (at + 4 + l.who + l.a) l.b bs → m ≡ number (at + 4 + l.who + l.a + l.b) l.mask bs → s ≡ number at 4 bs
    → recorded k w a b m s ≡ decoded k l (drop at bs)
decoded_is at k w a b m s l bs we ae be me se =
    let second : at + 4 + l.who ≡ at + (4 + l.who) = omega arith in
    let third : at + 4 + l.who + l.a ≡ at + (4 + l.who + l.a) = omega arith in
    let fourth : at + 4 + l.who + l.a + l.b ≡ at + (4 + l.who + l.a + l.b) = omega arith in
    let start : at ≡ at + 0 = omega arith in
    let here : (i j v : ℕ) → j ≡ at + i → number j v bs ≡ number i v (drop at bs) =
    λ i j v e. ap (λ (x : ℕ). number x v bs) e ∙ number_behind at i v bs in
    λ i. recorded k ((we ∙ here 4 (at + 4) l.who refl) i) ((ae ∙ here (4 + l.who) (at + 4 + l.who) l.a second) i)
    ((be ∙ here (4 + l.who + l.a) (at + 4 + l.who + l.a) l.b third) i)
    ((me ∙ here (4 + l.who + l.a + l.b) (at + 4 + l.who + l.a + l.b) l.mask fourth) i) ((se ∙ here 0 at 4 start) i)

-- ---- reading on

pub read_ends : (room p : ℕ) (bs : List ℕ) (x : Ending) → item_at room p bs ≡ Err x → read_from room p bs ≡ ends x p
unfolding read_from
read_ends zero p bs x h = ap (goes_on p (ends Stopped)) h
read_ends (suc room) p bs x h = ap (goes_on p (λ q. read_from room q bs)) h

-- an event record only stands where a record more may come
pub holds_room : (room p : ℕ) (bs : List ℕ) (v : Held) → item_at room p bs ≡ Ok v → 1 ≤ room
unfolding item_at
holds_room zero p bs v h = absurd (go (drop p bs) h)
  where
    go : (xs : List ℕ) → no_item xs ≡ Ok v → ⊥
    go [] k = cc
    go (x ∷ xs) k = cc
holds_room (suc room) p bs v h = omega arith

pub read_holds : (room p : ℕ) (bs : List ℕ) (v : Held) → item_at room p bs ≡ Ok v
    → read_from room p bs ≡ before v.event (read_from (room - 1) v.end bs)
unfolding read_from
read_holds zero p bs v h = absurd (let z = holds_room 0 p bs v h in omega (arith, z))
read_holds (suc room) p bs v h =
    let less : room ≡ suc room - 1 = omega arith in
    ap (goes_on p (λ q. read_from room q bs)) h ∙ ap (λ (k : ℕ). before v.event (read_from k v.end bs)) less
