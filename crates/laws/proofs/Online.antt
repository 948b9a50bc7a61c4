-- CPUs that are online: what a machine's online mask says of rows, levels and masks, and that it stays well-formed when a CPU goes or comes back.
-- Assumes nothing.
use mathlib.Core.Path.{◌≡◌, refl, sym, ap, ◌∙◌, subst}
use mathlib.Core.Bool.{Bool, true, false, cond, true≢false}
use mathlib.Core.Logic.{◌≢◌, ◌⊎◌, inl, inr}
use mathlib.Core.List.{List, [], ◌∷◌}
use Prim.Native.Nat.{ℕ, ◌+◌, ◌≤◌, ◌<◌, ◌^◌}
use native.Mathlib.Nat.{lt_of_le_of_lt}
use native.Mathlib.Omega.{arith}
use lib.Bits.{bit_and, and_le_l}
use lib.Dec.{ltb}
use lib.ListN.{length}
use borrow.Author.Tests.{eq-eqb, eqb-true, eqb-false, ltb-true, ltb-false}
use Rattle.bits.specs.Bit.{bit, first, lowest, with_bit, without_bit}
use Rattle.bits.proofs.Search.{lowest_is, first_cong, first_holds, first_before, zero_of_bits}
use Rattle.bits.proofs.Tests.{and_left, and_right, and_both}
use Rattle.bits.proofs.Word.{bit_of_and, bit_above, bit_put_same, bit_put_other, put_lt}
use Rattle.cpupri.specs.Level.{level_count}
use Rattle.rules.specs.Lists.{In, any, delete}
use Rattle.rules.specs.Machine.{Machine, task_of, prio_of, row, flag, is_online, row_level, idle_level, level, invalid, allows, lowest_allowed, stranded}
use Rattle.rules.specs.Machine.{runnable, task_places, cpu_places, queued, enqueue, dequeue, with_online, without_cpu, with_cpu}
use Rattle.rules.specs.WellFormed.{Shape, WellFormed}
use Rattle.rules.specs.Events.{evacuated, taken_offline}
use Rattle.laws.specs.Leaving.{Leaving, Way, Left, toward, one_less}
use Rattle.laws.proofs.Lists.{same?, in_here, in_there, not_in_nil, any_some, some_any}
use Rattle.laws.proofs.Rows.{row_same, row_other}
use Rattle.laws.proofs.Apart.{apart_dequeue, rejoin_enqueue, room, runnable_place, runnable_fit, in_row, row_in}

-- ---- masks

-- a mask that is not 0 and has no bit at N or above allows a CPU
pub lowest_good : (k n : ℕ) → 0 < k → k < 2 ^ n → (first (bit k) n < n) × (bit k (first (bit k) n) ≡ true)
lowest_good k n nonzero small = go (ltb (first (bit k) n) n) refl
  where
    go : (b : Bool) → ltb (first (bit k) n) n ≡ b → (first (bit k) n < n) × (bit k (first (bit k) n) ≡ true)
    go true e = (ltb-true (first (bit k) n) n e, first_holds (bit k) n (ltb-true (first (bit k) n) n e))
    go false e =
        let z : k ≡ 0 =
        zero_of_bits n k small (λ c h. first_before (bit k) n c (omega (arith, ltb-false (first (bit k) n) n e))) in
        absurd (omega arith)

-- and one that is not stranded an online one: its online part is not empty, has no bit at N or above, and has the same lowest bit
pub online_part : (m : Machine) (k : ℕ) → k < 2 ^ m.n → stranded m k ≡ false
    → (0 < bit_and k m.online) × (bit_and k m.online < 2 ^ m.n) × (first (bit (bit_and k m.online)) m.n ≡ lowest_allowed m k)
online_part m k small up = (
  let z : bit_and k m.online ≢ 0 = eqb-false (bit_and k m.online) 0 up in omega arith,
  lt_of_le_of_lt (and_le_l k m.online) small,
  first_cong (bit (bit_and k m.online)) (allows m k) m.n (λ c h. bit_of_and k m.online c),
)

pub lowest_up : (m : Machine) (k : ℕ) → k < 2 ^ m.n → stranded m k ≡ false → (lowest_allowed m k < m.n) × (allows m k (lowest_allowed m k) ≡ true)
lowest_up m k small up =
    let part = online_part m k small up in
    let good = lowest_good (bit_and k m.online) m.n part.0 part.1 in (
      subst (λ (x : ℕ). x < m.n) part.2 good.0,
      subst (λ (x : ℕ). allows m k x ≡ true) part.2 (sym (bit_of_and k m.online (first (bit (bit_and k m.online)) m.n)) ∙ good.1),
    )

-- the lowest bit of a 64-bit mask is its lowest-numbered CPU
pub lowest_cpu : (n k : ℕ) → n ≤ cpu_places → 0 < k → k < 2 ^ n → lowest cpu_places k ≡ first (bit k) n
lowest_cpu n k small some fits =
    let good : (first (bit k) n < n) × (bit k (first (bit k) n) ≡ true) = lowest_good k n some fits in
    lowest_is 64 k (first (bit k) n) (omega arith) good.1 (first_before (bit k) n)

-- and that of its online part the lowest-numbered online CPU that it allows
pub lowest_allowed_lem : (m : Machine) (k : ℕ) → m.n ≤ cpu_places → k < 2 ^ m.n → stranded m k ≡ false → lowest cpu_places (bit_and k m.online) ≡ lowest_allowed m k
lowest_allowed_lem m k small fits up =
    let part = online_part m k fits up in lowest_cpu m.n (bit_and k m.online) small part.0 part.1 ∙ part.2

-- of the mask, and online
pub allows_mask : (m : Machine) (k c : ℕ) → allows m k c ≡ true → bit k c ≡ true
allows_mask m k c a = and_left (bit k c) (is_online m c) a

pub allows_online : (m : Machine) (k c : ℕ) → allows m k c ≡ true → is_online m c ≡ true
allows_online m k c a = and_right (bit k c) (is_online m c) a

pub both_allow : (m : Machine) (k c : ℕ) → bit k c ≡ true → is_online m c ≡ true → allows m k c ≡ true
both_allow m k c b on = and_both (bit k c) (is_online m c) b on

-- a bit of the online part
pub allows_bit : (m : Machine) (k c : ℕ) → bit (bit_and k m.online) c ≡ allows m k c
allows_bit m k c = bit_of_and k m.online c

-- a mask that allows an online CPU is not stranded
pub allows_not_stranded : (m : Machine) (k c : ℕ) → allows m k c ≡ true → stranded m k ≡ true → ⊥
allows_not_stranded m k c a s =
    true≢false (sym a ∙ sym (bit_of_and k m.online c) ∙ ap (λ (x : ℕ). bit x c) (eqb-true (bit_and k m.online) 0 s) ∙ none c)
  where
    none : (c : ℕ) → bit 0 c ≡ false
    none c = bit_above 0 0 c (omega arith) (omega arith)

-- ---- rows and levels

pub idle_online : (m : Machine) (c : ℕ) → is_online m c ≡ true → idle_level m c ≡ flag m c
idle_online m c on = ap (λ (b : Bool). cond b (flag m c) invalid) on

pub idle_offline : (m : Machine) (c : ℕ) → is_online m c ≡ false → idle_level m c ≡ invalid
idle_offline m c off = ap (λ (b : Bool). cond b (flag m c) invalid) off

module _ (m : Machine) where
  -- a runnable task's CPU is online
  pub home_online : (t : ℕ) → WellFormed m → (task_of m t).state ≡ runnable → is_online m (task_of m t).cpu ≡ true
  home_online t w s = allows_online m (task_of m t).mask (task_of m t).cpu (w.home t s)

  pub row_online : (t c : ℕ) → WellFormed m → In t (row m c) → is_online m c ≡ true
  row_online t c w i = let r = in_row m t c w i in subst (λ (x : ℕ). is_online m x ≡ true) r.1 (home_online t w r.0)

  -- an offline CPU has an empty row and level INVALID
  pub offline_empty : (c : ℕ) → WellFormed m → is_online m c ≡ false → row m c ≡ []
  offline_empty c w off = go (row m c) refl
    where
      go : (r : List ℕ) → row m c ≡ r → r ≡ []
      go [] e = refl
      go (t ∷ ts) e = absurd (true≢false (sym (row_online t c w (subst (In t) (sym e) (in_here t ts))) ∙ off))

  pub level_offline : (c : ℕ) → WellFormed m → is_online m c ≡ false → level m c ≡ invalid
  level_offline c w off = ap (row_level (prio_of m) (idle_level m c)) (offline_empty c w off) ∙ idle_offline m c off

  -- and a CPU at a level is online
  pub level_online : (c : ℕ) → WellFormed m → level m c < level_count → is_online m c ≡ true
  level_online c w h = go (is_online m c) refl
    where
      go : (b : Bool) → is_online m c ≡ b → is_online m c ≡ true
      go true e = e
      go false e = absurd (omega (arith, level_offline c w e))

-- ---- another online mask

-- the CPUs of the word `up` are online, among them every CPU that has a task
keep_up : (up : ℕ) (m : Machine) → WellFormed m → 0 < up → up < 2 ^ m.n → ((t : ℕ) → (task_of m t).state ≡ runnable → bit up (task_of m t).cpu ≡ true)
    → WellFormed (with_online up m)
keep_up up m w some fits all =
    record {
      shape = record {
        some_cpu = s.some_cpu;
        cpus = s.cpus;
        some_tick = s.some_tick;
        ticks = s.ticks;
        state = s.state;
        policy = s.policy;
        prio = s.prio;
        cpu = s.cpu;
        slice = s.slice;
        mask = s.mask;
        rows = s.rows;
        flags = s.flags;
      };
      tasks = w.tasks;
      flags = w.flags;
      rows = w.rows;
      home = λ t r.
          both_allow (with_online up m) (task_of m t).mask (task_of m t).cpu (allows_mask m (task_of m t).mask (task_of m t).cpu (w.home t r)) (all t r);
      falling = w.falling;
      online_some = some;
      online_fits = fits;
    }
  where
    s : Shape m
    s = w.shape

-- CPU c comes back
pub keep_back : (c : ℕ) (m : Machine) → WellFormed m → c < m.n → WellFormed (with_cpu c m)
unfolding with_bit
keep_back c m w h =
    keep_up (with_bit m.online c) m w (omega (arith, more, w.online_some)) (put_lt true m.n m.online c w.online_fits h)
    (λ t s. up (task_of m t).cpu (home_online m t w s) (same? c (task_of m t).cpu))
  where
    more : m.online ≤ with_bit m.online c
    more = go (bit m.online c)
      where
        go : (b : Bool) → m.online ≤ cond b m.online (m.online + 2 ^ c)
        go true = omega arith
        go false = omega arith

    up : (d : ℕ) → bit m.online d ≡ true → (c ≡ d) ⊎ (c ≢ d) → bit (with_bit m.online c) d ≡ true
    up d e (inl s) = subst (λ (x : ℕ). bit (with_bit m.online c) x ≡ true) s (bit_put_same true m.online c)
    up d e (inr n) = bit_put_other true m.online c d n ∙ e

-- ---- CPU c goes: its tasks leave it front to back

module _ (up c : ℕ) (m : Machine) (l : Leaving up c m) where
  -- a task of row c, with its destination
  pub record Goes (t : ℕ) : Type 0 where
    pub runs : (task_of m t).state ≡ runnable
    pub home : (task_of m t).cpu ≡ c
    pub small : toward up m t < m.n
    pub online : is_online m (toward up m t) ≡ true
    pub may : allows m (task_of m t).mask (toward up m t) ≡ true
    pub other : c ≢ toward up m t

  stays : (d : ℕ) → bit up d ≡ true → (c ≢ d) × (is_online m d ≡ true)
  stays d e = let n : c ≢ d = λ s. true≢false (sym e ∙ ap (bit up) (sym s) ∙ l.down) in (n, sym (l.others d (λ s. n (sym s))) ∙ e)

  pub goes : (t : ℕ) → In t (row m c) → Goes t
  goes t i =
      record {
        runs = here.0;
        home = here.1;
        small = good.0;
        online = there.1;
        may = both_allow m (task_of m t).mask (toward up m t)
            (allows_mask (with_online up m) (task_of m t).mask (toward up m t) good.1) there.1;
        other = there.0;
      }
    where
      here : ((task_of m t).state ≡ runnable) × ((task_of m t).cpu ≡ c)
      here = in_row m t c l.well i

      good : (toward up m t < m.n) × (allows (with_online up m) (task_of m t).mask (toward up m t) ≡ true)
      good = lowest_up (with_online up m) (task_of m t).mask (runnable_fit m t l.well here.0).mask_fits (l.placed t i)

      there : (c ≢ toward up m t) × (is_online m (toward up m t) ≡ true)
      there = stays (toward up m t) (allows_online (with_online up m) (task_of m t).mask (toward up m t) good.1)

  -- it stands in no row when it enters: there is room
  pub goes_room : (t : ℕ) → In t (row m c) → length (row (dequeue t c m) (toward up m t)) < task_places
  goes_room t i =
      let g = goes t i in
      subst (λ (x : ℕ). length (row (dequeue t x m) (toward up m t)) < task_places) g.home
      (room t (dequeue t (task_of m t).cpu m) (apart_dequeue t m l.well g.runs) (runnable_place m t l.well g.runs) (toward up m t))

  module _ (t : ℕ) (ts : List ℕ) (e : row m c ≡ t ∷ ts) where
    front : Goes t
    front = goes t (subst (In t) (sym e) (in_here t ts))

    less_well : WellFormed (one_less up c m t)
    less_well =
        subst (λ (x : ℕ). WellFormed (enqueue t (toward up m t) (dequeue t x m))) front.home
        (rejoin_enqueue t (toward up m t) (dequeue t (task_of m t).cpu m) (apart_dequeue t m l.well front.runs) (runnable_place m t l.well front.runs)
        (runnable_fit m t l.well front.runs) front.runs front.small front.may)

    pub less_row : row (one_less up c m t) c ≡ ts
    unfolding delete
    less_row =
        row_other (dequeue t c m) (toward up m t) c (queued (prio_of m t) (prio_of m) t (row (dequeue t c m) (toward up m t))) front.other
        ∙ row_same m c (delete t (row m c)) (omega (arith, l.well.shape.rows, l.cpu))
        ∙ ap (delete t) e ∙ ap (λ (b : Bool). cond b ts (t ∷ delete t ts)) (eq-eqb t t refl)

    -- and the rule goes on from there
    pub less_way : Way up c m (one_less up c m t)
    unfolding evacuated
    less_way =
        record {
          leaving = record {
            well = less_well;
            cpu = l.cpu;
            down = l.down;
            others = l.others;
            placed = λ u i. l.placed u (subst (In u) (sym e) (in_there u t ts (subst (In u) less_row i)));
          };
          cpus = refl;
          online = refl;
          rule = ap (λ (r : List ℕ). evacuated c r (with_online up m)) e
              ∙ sym (ap (λ (r : List ℕ). evacuated c r (with_online up (one_less up c m t))) less_row);
        }

pub way_start : (up c : ℕ) (m : Machine) → Leaving up c m → Way up c m m
way_start up c m l = record { leaving = l; cpus = refl; online = refl; rule = refl }

pub way_on : (up c : ℕ) (m m' m'' : Machine) → Way up c m m' → Way up c m' m'' → Way up c m m''
way_on up c m m' m'' x y = record { leaving = y.leaving; cpus = y.cpus ∙ x.cpus; online = y.online ∙ x.online; rule = x.rule ∙ y.rule }

-- the rule's end, when all have left
pub left_rule : (up c : ℕ) (m m' : Machine) → Left up c m m' → evacuated c (row m c) (with_online up m) ≡ with_online up m'
unfolding evacuated
left_rule up c m m' l = l.way.rule ∙ ap (λ (r : List ℕ). evacuated c r (with_online up m')) l.empty

-- a part of the machine that moving a task leaves alone
pub evacuated_keeps : {A : Type 0} (c : ℕ) (f : Machine → A) → ((t d : ℕ) (x : Machine) → f (enqueue t d (dequeue t c x)) ≡ f x) → (ts : List ℕ) (x : Machine)
    → f (evacuated c ts x) ≡ f x
unfolding evacuated
evacuated_keeps c f k [] x = refl
evacuated_keeps c f k (t ∷ ts) x =
    let to = lowest_allowed x (task_of x t).mask in evacuated_keeps c f k ts (enqueue t to (dequeue t c x)) ∙ k t to x

-- all can leave
evacuate : (up c : ℕ) (ts : List ℕ) (m : Machine) → Leaving up c m → row m c ≡ ts → (m' : Machine) × Left up c m m'
evacuate up c [] m l e = (m, record { way = way_start up c m l; empty = e })
evacuate up c (t ∷ ts) m l e =
    let one = less_way up c m l t ts e in
    let rest = evacuate up c ts (one_less up c m t) one.leaving (less_row up c m l t ts e) in
    (rest.0, record { way = way_on up c m (one_less up c m t) rest.0 one rest.1.way; empty = rest.1.empty })

-- its row empty, CPU c can go
pub keep_gone : (up c : ℕ) (m : Machine) → Leaving up c m → row m c ≡ [] → up ≢ 0 → up < 2 ^ m.n → WellFormed (with_online up m)
keep_gone up c m l e some fits = keep_up up m l.well (omega arith) fits (λ t s. go t s (same? (task_of m t).cpu c))
  where
    go : (t : ℕ) → (task_of m t).state ≡ runnable → ((task_of m t).cpu ≡ c) ⊎ ((task_of m t).cpu ≢ c) → bit up (task_of m t).cpu ≡ true
    go t s (inl h) = absurd (not_in_nil t (subst (In t) (ap (row m) h ∙ e) (row_in m t l.well s)))
    go t s (inr n) = l.others (task_of m t).cpu n ∙ home_online m t l.well s

-- the online mask without CPU c
module _ (c : ℕ) (m : Machine) (w : WellFormed m) (h : c < m.n) where
  abbrev rest : ℕ
  rest = without_bit m.online c

  rest_all : (d : ℕ) → d ≢ c → bit rest d ≡ is_online m d
  rest_all d n = bit_put_other false m.online c d (λ s. n (sym s))

  module _ (placed : (t : ℕ) → In t (row m c) → stranded (without_cpu c m) (task_of m t).mask ≡ false) where
    pub leaving : Leaving (without_bit m.online c) c m
    leaving = record { well = w; cpu = h; down = bit_put_same false m.online c; others = rest_all; placed = placed }

    pub keep_offline : without_bit m.online c ≢ 0 → WellFormed (taken_offline c m)
    keep_offline some =
        let done = evacuate rest c (row m c) m leaving refl in
        let way = done.1.way in
        subst WellFormed (sym (left_rule rest c m done.0 done.1))
        (keep_gone rest c done.0 way.leaving done.1.empty some
        (subst (λ (n : ℕ). rest < 2 ^ n) (sym way.cpus) (put_lt false m.n m.online c w.online_fits h)))

  -- Refusal 10 of kind 10, in the paper's words: some runnable task would have no allowed online CPU.
  pub stranded_one : any (λ t. stranded (without_cpu c m) (task_of m t).mask) (row m c) ≡ true
      → (t : ℕ) × ((task_of m t).state ≡ runnable) × (stranded (without_cpu c m) (task_of m t).mask ≡ true)
  stranded_one e =
      let f = any_some (λ t. stranded (without_cpu c m) (task_of m t).mask) (row m c) e in (f.0, (in_row m f.0 c w f.1).0, f.2)

  pub one_stranded : (t : ℕ) → (task_of m t).state ≡ runnable → stranded (without_cpu c m) (task_of m t).mask ≡ true
      → any (λ t. stranded (without_cpu c m) (task_of m t).mask) (row m c) ≡ true
  one_stranded t s e = go (same? (task_of m t).cpu c)
    where
      go : ((task_of m t).cpu ≡ c) ⊎ ((task_of m t).cpu ≢ c) → any (λ t. stranded (without_cpu c m) (task_of m t).mask) (row m c) ≡ true
      go (inl q) = some_any (λ t. stranded (without_cpu c m) (task_of m t).mask) t (row m c) (subst (λ (d : ℕ). In t (row m d)) q (row_in m t w s)) e
      go (inr n) =
          absurd (allows_not_stranded (without_cpu c m) (task_of m t).mask (task_of m t).cpu
          (both_allow (without_cpu c m) (task_of m t).mask (task_of m t).cpu
          (allows_mask m (task_of m t).mask (task_of m t).cpu (w.home t s)) (rest_all (task_of m t).cpu n ∙ home_online m t w s)) e)
