-- The move log as numbers: its length stays, its entries are the moves, and from their number on it is as it was.
-- Assumes nothing.
use mathlib.Core.Path.{◌≡◌, refl, sym, ap, ap₂, ◌∙◌}
use mathlib.Core.List.{List, [], ◌∷◌, ◌++◌, append_assoc}
use Prim.Native.Nat.{ℕ, zero, suc, ◌+◌, ◌-◌, ◌*◌, ◌≤◌, ◌<◌}
use native.Mathlib.Nat.{not-suc-le-zero, le_of_suc-le-suc}
use native.Mathlib.Omega.{arith}
use lib.ListN.{length, get_or, drop, length-append, length-drop, get_or-append}
use lib.Seq.{get_or-append-add, get_or-drop, drop-drop, sets, sets-eq, take_at, drop_at}
use Rattle.rules.specs.Migration.{Move}
use Rattle.rules.specs.Outcome.{entry_numbers, entry_width, log_numbers, logged}

pub length_numbers : (vs : List Move) → length (log_numbers vs) ≡ entry_width * length vs
unfolding log_numbers
length_numbers [] = refl
length_numbers (v ∷ vs) = let ih : length (log_numbers vs) ≡ entry_width * length vs = length_numbers vs in omega arith

pub length_logged : (vs : List Move) (old : List ℕ) → entry_width * length vs ≤ length old → length (logged vs old) ≡ length old
length_logged vs old h =
    let e : length (logged vs old) ≡ length (log_numbers vs) + length (drop (length (log_numbers vs)) old) =
    length-append (log_numbers vs) (drop (length (log_numbers vs)) old) in
    omega (arith, length_numbers vs, length-drop (length (log_numbers vs)) old)

abbrev pub no_move : Move
no_move = record { task = 0; origin = 0; target = 0; displaced = 0 }

-- number j of entry i
numbers_at : (vs : List Move) (i j : ℕ) → i < length vs → j < entry_width
    → get_or (log_numbers vs) (entry_width * i + j) 0 ≡ get_or (entry_numbers (get_or vs i no_move)) j 0
unfolding log_numbers
numbers_at [] i j h l = absurd (not-suc-le-zero h)
numbers_at (v ∷ vs) zero j h l =
    let e : entry_width * zero + j ≡ j = omega arith in
    ap (λ (k : ℕ). get_or (log_numbers (v ∷ vs)) k 0) e ∙ get_or-append (entry_numbers v) (log_numbers vs) 0 j l
numbers_at (v ∷ vs) (suc i) j h l =
    let e : entry_width * suc i + j ≡ entry_width + (entry_width * i + j) = omega arith in
    ap (λ (k : ℕ). get_or (log_numbers (v ∷ vs)) k 0) e
    ∙ get_or-append-add (entry_numbers v) (log_numbers vs) (entry_width * i + j) 0
    ∙ numbers_at vs i j (le_of_suc-le-suc h) l

-- step i is entry i of the log
pub logged_entry : (vs : List Move) (old : List ℕ) (i j : ℕ) → i < length vs → j < entry_width
    → get_or (logged vs old) (entry_width * i + j) 0 ≡ get_or (entry_numbers (get_or vs i no_move)) j 0
logged_entry vs old i j h l =
    get_or-append (log_numbers vs) (drop (length (log_numbers vs)) old) 0 (entry_width * i + j) (omega (arith, length_numbers vs))
    ∙ numbers_at vs i j h l

-- entries from the count on stay as they were
pub logged_old : (vs : List Move) (old : List ℕ) (j : ℕ) → entry_width * length vs ≤ j → get_or (logged vs old) j 0 ≡ get_or old j 0
logged_old vs old j h =
    let e : length (log_numbers vs) + (j - length (log_numbers vs)) ≡ j = omega (arith, length_numbers vs) in
    ap (λ (k : ℕ). get_or (logged vs old) k 0) (sym e)
    ∙ get_or-append-add (log_numbers vs) (drop (length (log_numbers vs)) old) (j - length (log_numbers vs)) 0
    ∙ get_or-drop (length (log_numbers vs)) old (j - length (log_numbers vs)) 0
    ∙ ap (λ (k : ℕ). get_or old k 0) e

-- ---- one move more

numbers_snoc : (vs : List Move) (v : Move) → log_numbers (vs ++ v ∷ []) ≡ log_numbers vs ++ entry_numbers v
unfolding log_numbers
numbers_snoc [] v = refl
numbers_snoc (u ∷ vs) v =
    ap (λ (ns : List ℕ). entry_numbers u ++ ns) (numbers_snoc vs v) ∙ sym (append_assoc (entry_numbers u) (log_numbers vs) (entry_numbers v))

-- its numbers stored as the next entry
pub logged_snoc : (vs : List Move) (v : Move) (old : List ℕ) (k : ℕ) → k ≡ length vs → entry_width * suc k ≤ length old
    → sets (logged vs old) (k * entry_width) (entry_numbers v) ≡ logged (vs ++ v ∷ []) old
logged_snoc vs v old k e h =
    sets-eq (entry_numbers v) (logged vs old) at room
    ∙ ap₂ (λ (p q : List ℕ). p ++ entry_numbers v ++ q) (take_at (log_numbers vs) rest at size) behind
    ∙ ap (λ (p : List ℕ). p ++ drop (length (log_numbers (vs ++ v ∷ []))) old) (sym (numbers_snoc vs v))
  where
    at : ℕ
    at = k * entry_width

    rest : List ℕ
    rest = drop (length (log_numbers vs)) old

    size : length (log_numbers vs) ≡ at
    size = omega (arith, length_numbers vs)

    room : at + entry_width ≤ length (logged vs old)
    room = omega (arith, length_logged vs old (omega arith))

    more : length (log_numbers (vs ++ v ∷ [])) ≡ length (log_numbers vs) + entry_width
    more = ap length (numbers_snoc vs v) ∙ length-append (log_numbers vs) (entry_numbers v)

    behind : drop (at + entry_width) (logged vs old) ≡ drop (length (log_numbers (vs ++ v ∷ []))) old
    behind =
        sym (drop-drop entry_width at (logged vs old))
        ∙ ap (drop entry_width) (drop_at (log_numbers vs) rest at size)
        ∙ drop-drop entry_width (length (log_numbers vs)) old
        ∙ ap (λ (i : ℕ). drop i old) (sym more)
