-- Reading and writing the lent tables: rows written are read back, and rows that are stored rightly are written back as they were. W3's test
-- and W3 imply each other.
-- Assumes nothing.
use mathlib.Core.Path.{◌≡◌, refl, sym, ap, ap₂, ◌∙◌, subst}
use mathlib.Core.Bool.{true}
use mathlib.Core.List.{List, [], ◌∷◌, ◌++◌, append_assoc}
use Prim.Native.Nat.{ℕ, zero, suc, ◌+◌, ◌-◌, ◌*◌, ◌≤◌, ◌<◌, zero-le, suc-le-suc}
use native.Mathlib.Nat.{not-suc-le-zero, le_of_suc-le-suc, zero-lt-suc, suc-sub-suc}
use native.Mathlib.Omega.{arith}
use lib.Dec.{eqb, ltb}
use lib.ListN.{length, get_or, take, drop, replicate, length-append, length-replicate, length-drop, take-append-drop, set}
use lib.Seq.{take-take, drop-drop, take_at, drop_at, get_or-drop, get_or-take, length-take-le, drop-append-add, take-append-add}
use borrow.Author.Tests.{eqb-true, eq-eqb, ltb-true, lt-ltb}
use Rattle.bits.proofs.Tests.{and_both}
use Rattle.rules.specs.Lists.{In, joined}
use Rattle.rules.specs.Machine.{task_places, head}
use Rattle.rules.specs.Tables.{nothing, rows_of, padded, flat_of, row_counts, Stored, stored_row, stored_rows}
use Rattle.laws.specs.Limited.{second, or_nothing}
use Rattle.laws.proofs.Bools.{both}
use Rattle.laws.proofs.Lists.{in_here, in_there}

-- ---- reading

pub length_rows_of : (ks flat : List ℕ) → length (rows_of ks flat) ≡ length ks
unfolding rows_of
length_rows_of [] flat = refl
length_rows_of (k ∷ ks) flat = ap suc (length_rows_of ks (drop task_places flat))

-- row c begins at place 512 times c
pub row_at : (ks flat : List ℕ) (c : ℕ) → c < length ks → get_or (rows_of ks flat) c [] ≡ take (get_or ks c 0) (drop (task_places * c) flat)
unfolding rows_of
row_at [] flat c h = absurd (not-suc-le-zero h)
row_at (k ∷ ks) flat zero h = refl
row_at (k ∷ ks) flat (suc c) h =
    row_at ks (drop task_places flat) c (le_of_suc-le-suc h)
    ∙ ap (take (get_or ks c 0)) (drop-drop (task_places * c) task_places flat ∙ ap (λ (n : ℕ). drop n flat) next)
  where
    next : task_places + task_places * c ≡ task_places * suc c
    next = omega arith

-- ---- writing

pub length_padded : (r : List ℕ) → length r ≤ task_places → length (padded r) ≡ task_places
unfolding padded
length_padded r h =
    let e : length (r ++ replicate (task_places - length r) nothing) ≡ length r + length (replicate (task_places - length r) nothing) =
    length-append r (replicate (task_places - length r) nothing) in
    omega (arith, length-replicate (task_places - length r) nothing)

flat_cons : (r : List ℕ) (rs : List (List ℕ)) → flat_of (r ∷ rs) ≡ padded r ++ flat_of rs
unfolding flat_of joined
flat_cons r rs = refl

-- each row has room
abbrev pub Fitting : List (List ℕ) → Type 0
Fitting rs = (c : ℕ) → length (get_or rs c []) ≤ task_places

pub length_flat : (rs : List (List ℕ)) → Fitting rs → length (flat_of rs) ≡ task_places * length rs
unfolding flat_of joined
length_flat [] f = refl
length_flat (r ∷ rs) f =
    let e : length (padded r ++ flat_of rs) ≡ length (padded r) + length (flat_of rs) = length-append (padded r) (flat_of rs) in
    let ih : length (flat_of rs) ≡ task_places * length rs = length_flat rs (λ c. f (suc c)) in
    let p : length (padded r) ≡ task_places = length_padded r (f zero) in
    omega arith

take_padded : (r rest : List ℕ) → take (length r) (padded r ++ rest) ≡ r
unfolding padded
take_padded r rest =
    ap (take (length r)) (append_assoc r (replicate (task_places - length r) nothing) rest)
    ∙ take_at r (replicate (task_places - length r) nothing ++ rest) (length r) refl

-- what is written is read back
pub read_written : (rs : List (List ℕ)) → Fitting rs → rows_of (row_counts rs) (flat_of rs) ≡ rs
unfolding rows_of
read_written [] f = refl
read_written (r ∷ rs) f =
    ap₂ (λ (a : List ℕ) (b : List (List ℕ)). a ∷ b) (ap (take (length r)) (flat_cons r rs) ∙ take_padded r (flat_of rs))
    (ap (rows_of (row_counts rs)) (ap (drop task_places) (flat_cons r rs) ∙ drop_at (padded r) (flat_of rs) task_places (length_padded r (f zero)))
    ∙ read_written rs (λ c. f (suc c)))

-- ---- one row of the flat table

-- the 512 places of row c
pub flat_row : (rs : List (List ℕ)) → Fitting rs → (c : ℕ) → c < length rs → take task_places (drop (task_places * c) (flat_of rs)) ≡ padded (get_or rs c [])
flat_row [] f c h = absurd (not-suc-le-zero h)
flat_row (r ∷ rs) f zero h = ap (take task_places) (flat_cons r rs) ∙ take_at (padded r) (flat_of rs) task_places (length_padded r (f zero))
flat_row (r ∷ rs) f (suc c) h =
    let next : task_places * suc c ≡ length (padded r) + task_places * c = omega (arith, length_padded r (f zero)) in
    ap (take task_places)
    (ap₂ (λ (n : ℕ) (l : List ℕ). drop n l) next (flat_cons r rs) ∙ drop-append-add (padded r) (flat_of rs) (task_places * c))
    ∙ flat_row rs (λ d. f (suc d)) c (le_of_suc-le-suc h)

-- the first and the second place of a row: they hold nothing where the row is shorter
padded_first : (r : List ℕ) → get_or (padded r) 0 0 ≡ or_nothing (head r)
unfolding padded
padded_first [] = refl
padded_first (x ∷ r) = refl

padded_second : (r : List ℕ) → get_or (padded r) 1 0 ≡ or_nothing (second r)
unfolding padded
padded_second [] = refl
padded_second (x ∷ []) = refl
padded_second (x ∷ (y ∷ r)) = refl

module _ (rs : List (List ℕ)) (fits : Fitting rs) (c : ℕ) (h : c < length rs) where
  row_place : (i : ℕ) → i < task_places → get_or (flat_of rs) (task_places * c + i) 0 ≡ get_or (padded (get_or rs c [])) i 0
  row_place i l =
      sym (get_or-drop (task_places * c) (flat_of rs) i 0)
      ∙ sym (get_or-take task_places (drop (task_places * c) (flat_of rs)) i 0 l)
      ∙ ap (λ (xs : List ℕ). get_or xs i 0) (flat_row rs fits c h)

  pub flat_first : get_or (flat_of rs) (c * task_places) 0 ≡ or_nothing (head (get_or rs c []))
  flat_first =
      let e : c * task_places ≡ task_places * c + 0 = omega arith in
      ap (λ (i : ℕ). get_or (flat_of rs) i 0) e ∙ row_place 0 (omega arith) ∙ padded_first (get_or rs c [])

  pub flat_second : get_or (flat_of rs) (c * task_places + 1) 0 ≡ or_nothing (second (get_or rs c []))
  flat_second =
      let e : c * task_places + 1 ≡ task_places * c + 1 = omega arith in
      ap (λ (i : ℕ). get_or (flat_of rs) i 0) e ∙ row_place 1 (omega arith) ∙ padded_second (get_or rs c [])

-- another row c: its 512 places change, and no other
pub flat_set : (rs : List (List ℕ)) → Fitting rs → (c : ℕ) (r : List ℕ) → c < length rs
    → flat_of (set rs c r) ≡ take (task_places * c) (flat_of rs) ++ (padded r ++ drop (task_places * c + task_places) (flat_of rs))
flat_set [] f c r h = absurd (not-suc-le-zero h)
flat_set (q ∷ rs) f zero r h =
    flat_cons r rs
    ∙ ap (λ (l : List ℕ). padded r ++ l) (sym (ap (drop task_places) (flat_cons q rs) ∙ drop_at (padded q) (flat_of rs) task_places (length_padded q (f zero))))
flat_set (q ∷ rs) f (suc c) r h =
    let long : length (padded q) ≡ task_places = length_padded q (f zero) in
    let at : task_places * suc c ≡ length (padded q) + task_places * c = omega arith in
    let after : task_places * suc c + task_places ≡ length (padded q) + (task_places * c + task_places) = omega arith in
    let front : take (task_places * suc c) (flat_of (q ∷ rs)) ≡ padded q ++ take (task_places * c) (flat_of rs) =
    ap₂ (λ (n : ℕ) (l : List ℕ). take n l) at (flat_cons q rs) ∙ take-append-add (padded q) (flat_of rs) (task_places * c) in
    let back : drop (task_places * suc c + task_places) (flat_of (q ∷ rs)) ≡ drop (task_places * c + task_places) (flat_of rs) =
    ap₂ (λ (n : ℕ) (l : List ℕ). drop n l) after (flat_cons q rs) ∙ drop-append-add (padded q) (flat_of rs) (task_places * c + task_places) in
    flat_cons q (set rs c r)
    ∙ ap (λ (l : List ℕ). padded q ++ l) (flat_set rs (λ d. f (suc d)) c r (le_of_suc-le-suc h))
    ∙ sym (append_assoc (padded q) (take (task_places * c) (flat_of rs)) (padded r ++ drop (task_places * c + task_places) (flat_of rs)))
    ∙ ap₂ (λ (x y : List ℕ). x ++ (padded r ++ y)) (sym front) (sym back)

-- and its count alone
pub counts_set : (rs : List (List ℕ)) (c : ℕ) (r : List ℕ) → row_counts (set rs c r) ≡ set (row_counts rs) c (length r)
counts_set [] c r = refl
counts_set (q ∷ rs) zero r = refl
counts_set (q ∷ rs) (suc c) r = ap (λ (l : List ℕ). length q ∷ l) (counts_set rs c r)

-- ---- one stored row

all_nothing : (xs : List ℕ) → stored_row 0 xs ≡ true → xs ≡ replicate (length xs) nothing
unfolding stored_row
all_nothing [] h = refl
all_nothing (x ∷ xs) h =
    let b = both (eqb x nothing) (stored_row 0 xs) h in
    ap₂ (λ (y : ℕ) (ys : List ℕ). y ∷ ys) (eqb-true x nothing b.0) (all_nothing xs b.1)

-- the tasks that the count says, and then nothing
pub stored_row_lem : (k : ℕ) (xs : List ℕ) → stored_row k xs ≡ true → (k ≤ length xs) × (xs ≡ take k xs ++ replicate (length xs - k) nothing)
unfolding stored_row
stored_row_lem zero [] h = (zero-le, refl)
stored_row_lem (suc k) [] h = absurd (let z : suc k ≡ 0 = eqb-true (suc k) 0 h in omega arith)
stored_row_lem zero (x ∷ xs) h =
    let same : suc (length xs) ≡ suc (length xs) - 0 = omega arith in
    (zero-le, all_nothing (x ∷ xs) h ∙ ap (λ (n : ℕ). replicate n nothing) same)
stored_row_lem (suc k) (x ∷ xs) h =
    let b = both (ltb x task_places) (stored_row k xs) h in
    let ih : (k ≤ length xs) × (xs ≡ take k xs ++ replicate (length xs - k) nothing) = stored_row_lem k xs b.1 in (
      suc-le-suc ih.0,
      ap (λ (ys : List ℕ). x ∷ ys) (ih.1 ∙ ap (λ (n : ℕ). take k xs ++ replicate n nothing) (sym (suc-sub-suc (length xs) k))),
    )

row_used : (k : ℕ) (xs : List ℕ) → stored_row k xs ≡ true → (i : ℕ) → i < k → get_or xs i 0 < task_places
unfolding stored_row
row_used k [] h i l = absurd (let z : k ≡ 0 = eqb-true k 0 h in omega arith)
row_used zero (x ∷ xs) h i l = absurd (not-suc-le-zero l)
row_used (suc k) (x ∷ xs) h zero l = ltb-true x task_places (both (ltb x task_places) (stored_row k xs) h).0
row_used (suc k) (x ∷ xs) h (suc i) l = row_used k xs (both (ltb x task_places) (stored_row k xs) h).1 i (le_of_suc-le-suc l)

row_unused : (k : ℕ) (xs : List ℕ) → stored_row k xs ≡ true → (i : ℕ) → k ≤ i → i < length xs → get_or xs i 0 ≡ nothing
unfolding stored_row
row_unused k [] h i g l = absurd (not-suc-le-zero l)
row_unused zero (x ∷ xs) h zero g l = eqb-true x nothing (both (eqb x nothing) (stored_row 0 xs) h).0
row_unused zero (x ∷ xs) h (suc i) g l = row_unused zero xs (both (eqb x nothing) (stored_row 0 xs) h).1 i zero-le (le_of_suc-le-suc l)
row_unused (suc k) (x ∷ xs) h zero g l = absurd (not-suc-le-zero g)
row_unused (suc k) (x ∷ xs) h (suc i) g l =
    row_unused k xs (both (ltb x task_places) (stored_row k xs) h).1 i (le_of_suc-le-suc g) (le_of_suc-le-suc l)

row_stored : (k : ℕ) (xs : List ℕ) → k ≤ length xs → ((i : ℕ) → i < k → get_or xs i 0 < task_places)
    → ((i : ℕ) → k ≤ i → i < length xs → get_or xs i 0 ≡ nothing) → stored_row k xs ≡ true
unfolding stored_row
row_stored k [] h u n = eq-eqb k 0 (omega arith)
row_stored zero (x ∷ xs) h u n =
    and_both (eqb x nothing) (stored_row 0 xs) (eq-eqb x nothing (n zero zero-le (zero-lt-suc (length xs))))
    (row_stored zero xs zero-le (λ i l. absurd (not-suc-le-zero l)) (λ i g l. n (suc i) zero-le (suc-le-suc l)))
row_stored (suc k) (x ∷ xs) h u n =
    and_both (ltb x task_places) (stored_row k xs) (lt-ltb x task_places (u zero (zero-lt-suc k)))
    (row_stored k xs (le_of_suc-le-suc h) (λ i l. u (suc i) (suc-le-suc l)) (λ i g l. n (suc i) (suc-le-suc g) (suc-le-suc l)))

-- a run queue of tasks in its places
queue_stored : (r : List ℕ) (j : ℕ) → ((u : ℕ) → In u r → u < task_places) → stored_row (length r) (r ++ replicate j nothing) ≡ true
unfolding stored_row
queue_stored [] zero h = refl
queue_stored [] (suc j) h = queue_stored [] j h
queue_stored (x ∷ xs) j h =
    and_both (ltb x task_places) (stored_row (length xs) (xs ++ replicate j nothing)) (lt-ltb x task_places (h x (in_here x xs)))
    (queue_stored xs j (λ u i. h u (in_there u x xs i)))

padded_stored : (r : List ℕ) → ((u : ℕ) → In u r → u < task_places) → stored_row (length r) (padded r) ≡ true
unfolding padded
padded_stored r h = queue_stored r (task_places - length r) h

-- ---- all rows

-- the first row is 512 long, and the others are
long_first : (k : ℕ) (ks flat : List ℕ) → length flat ≡ task_places * length (k ∷ ks) → length (take task_places flat) ≡ task_places
long_first k ks flat h = length-take-le task_places flat (omega arith)

long_rest : (k : ℕ) (ks flat : List ℕ) → length flat ≡ task_places * length (k ∷ ks) → length (drop task_places flat) ≡ task_places * length ks
long_rest k ks flat h = omega (arith, length-drop task_places flat)

nil_of : (xs : List ℕ) → length xs ≡ 0 → xs ≡ []
nil_of [] h = refl
nil_of (x ∷ xs) h = absurd (omega arith)

-- rows that are stored rightly are written back as they were
pub write_read : (ks flat : List ℕ) → length flat ≡ task_places * length ks → stored_rows ks flat ≡ true
    → (flat_of (rows_of ks flat) ≡ flat) × (row_counts (rows_of ks flat) ≡ ks)
unfolding stored_rows rows_of flat_of joined padded
write_read [] flat h t = (sym (nil_of flat h), refl)
write_read (k ∷ ks) flat h t =
    let b = both (stored_row k (take task_places flat)) (stored_rows ks (drop task_places flat)) t in
    let ih = write_read ks (drop task_places flat) (long_rest k ks flat h) b.1 in
    let r : (k ≤ length (take task_places flat)) × (take task_places flat ≡ take k (take task_places flat) ++ replicate (length (take task_places flat) - k) nothing) =
    stored_row_lem k (take task_places flat) b.0 in
    let long : length (take task_places flat) ≡ task_places = long_first k ks flat h in
    let small : k ≤ task_places = omega arith in
    let count : length (take k flat) ≡ k = length-take-le k flat (omega arith) in
    let places : length (take task_places flat) - k ≡ task_places - length (take k flat) = omega arith in
    let front : take k flat ++ replicate (task_places - length (take k flat)) nothing ≡ take task_places flat =
    ap₂ (λ (a : List ℕ) (n : ℕ). a ++ replicate n nothing) (sym (take-take k task_places flat small)) (sym places) ∙ sym r.1 in
    (ap₂ (λ (a b : List ℕ). a ++ b) front ih.0 ∙ take-append-drop task_places flat, ap₂ (λ (x : ℕ) (xs : List ℕ). x ∷ xs) count ih.1)

-- rows of tasks, written, are stored rightly
pub written_stored : (rs : List (List ℕ)) → Fitting rs → ((c u : ℕ) → In u (get_or rs c []) → u < task_places) → stored_rows (row_counts rs) (flat_of rs) ≡ true
unfolding stored_rows
written_stored [] f h = refl
written_stored (r ∷ rs) f h =
    and_both _ _
    (ap (stored_row (length r)) (ap (take task_places) (flat_cons r rs) ∙ take_at (padded r) (flat_of rs) task_places (length_padded r (f zero)))
    ∙ padded_stored r (h zero))
    (ap (stored_rows (row_counts rs)) (ap (drop task_places) (flat_cons r rs) ∙ drop_at (padded r) (flat_of rs) task_places (length_padded r (f zero)))
    ∙ written_stored rs (λ c. f (suc c)) (λ c. h (suc c)))

-- ---- W3's test and W3

here : (i : ℕ) → task_places * 0 + i ≡ i
here i = omega arith

after : (c i : ℕ) → task_places + (task_places * c + i) ≡ task_places * suc c + i
after c i = omega arith

first_at : (flat : List ℕ) (i : ℕ) → i < task_places → get_or (take task_places flat) i 0 ≡ get_or flat (task_places * 0 + i) 0
first_at flat i h = get_or-take task_places flat i 0 h ∙ ap (λ (n : ℕ). get_or flat n 0) (sym (here i))

rest_at : (flat : List ℕ) (c i : ℕ) → get_or (drop task_places flat) (task_places * c + i) 0 ≡ get_or flat (task_places * suc c + i) 0
rest_at flat c i = get_or-drop task_places flat (task_places * c + i) 0 ∙ ap (λ (n : ℕ). get_or flat n 0) (after c i)

module _ (k : ℕ) (ks flat : List ℕ) (long : length flat ≡ task_places * length (k ∷ ks)) where
  stored_cons : stored_row k (take task_places flat) ≡ true → Stored ks (drop task_places flat) → Stored (k ∷ ks) flat
  stored_cons h s = record { counted = counted; used = used; unused = unused }
    where
      first_long : length (take task_places flat) ≡ task_places
      first_long = long_first k ks flat long

      few : k ≤ task_places
      few = subst (λ (n : ℕ). k ≤ n) first_long (stored_row_lem k (take task_places flat) h).0

      counted : (c : ℕ) → c < length (k ∷ ks) → get_or (k ∷ ks) c 0 ≤ task_places
      counted zero l = few
      counted (suc c) l = s.counted c (le_of_suc-le-suc l)

      used : (c i : ℕ) → c < length (k ∷ ks) → i < get_or (k ∷ ks) c 0 → get_or flat (task_places * c + i) 0 < task_places
      used zero i l u =
          subst (λ (x : ℕ). x < task_places) (first_at flat i (omega (arith, few))) (row_used k (take task_places flat) h i u)
      used (suc c) i l u = subst (λ (x : ℕ). x < task_places) (rest_at flat c i) (s.used c i (le_of_suc-le-suc l) u)

      unused : (c i : ℕ) → c < length (k ∷ ks) → get_or (k ∷ ks) c 0 ≤ i → i < task_places → get_or flat (task_places * c + i) 0 ≡ nothing
      unused zero i l g u =
          sym (first_at flat i u) ∙ row_unused k (take task_places flat) h i g (subst (λ (n : ℕ). i < n) (sym first_long) u)
      unused (suc c) i l g u = sym (rest_at flat c i) ∙ s.unused c i (le_of_suc-le-suc l) g u

  cons_stored : Stored (k ∷ ks) flat → (stored_row k (take task_places flat) ≡ true) × Stored ks (drop task_places flat)
  cons_stored s = (
    row_stored k (take task_places flat) (subst (λ (n : ℕ). k ≤ n) (sym first_long) few)
        (λ i u. subst (λ (x : ℕ). x < task_places) (sym (first_at flat i (omega (arith, few)))) (s.used zero i (zero-lt-suc (length ks)) u))
        (λ i g l. let small : i < task_places = subst (λ (n : ℕ). i < n) first_long l in first_at flat i small ∙ s.unused zero i (zero-lt-suc (length ks)) g small),
    record {
      counted = λ c l. s.counted (suc c) (suc-le-suc l);
      used = λ c i l u. subst (λ (x : ℕ). x < task_places) (sym (rest_at flat c i)) (s.used (suc c) i (suc-le-suc l) u);
      unused = λ c i l g u. rest_at flat c i ∙ s.unused (suc c) i (suc-le-suc l) g u;
    },
  )
    where
      first_long : length (take task_places flat) ≡ task_places
      first_long = long_first k ks flat long

      few : k ≤ task_places
      few = s.counted zero (zero-lt-suc (length ks))

pub test_stored : (ks flat : List ℕ) → length flat ≡ task_places * length ks → stored_rows ks flat ≡ true → Stored ks flat
unfolding stored_rows
test_stored [] flat h t =
    record {
      counted = λ c l. absurd (not-suc-le-zero l);
      used = λ c i l u. absurd (not-suc-le-zero l);
      unused = λ c i l g u. absurd (not-suc-le-zero l);
    }
test_stored (k ∷ ks) flat h t =
    let b = both (stored_row k (take task_places flat)) (stored_rows ks (drop task_places flat)) t in
    stored_cons k ks flat h b.0 (test_stored ks (drop task_places flat) (long_rest k ks flat h) b.1)

pub stored_test : (ks flat : List ℕ) → length flat ≡ task_places * length ks → Stored ks flat → stored_rows ks flat ≡ true
unfolding stored_rows
stored_test [] flat h s = refl
stored_test (k ∷ ks) flat h s =
    let b = cons_stored k ks flat h s in
    and_both (stored_row k (take task_places flat)) (stored_rows ks (drop task_places flat)) b.0
    (stored_test ks (drop task_places flat) (long_rest k ks flat h) b.1)
