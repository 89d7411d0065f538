-- Lists of words in dictionary order.
--     Ordered ws          each word stands in a dictionary before all words after it
--     words_ordered       all words of a rank and a length are so listed; keep_ordered: so are those of them that pass a test
--     ordered_later       at a later place of such a list stands a later word
--     earlier-shorter     a word is earlier than a longer one that begins with it; earlier_longer: not the other way; never_earlier: no word than itself
--     place_of_word       the word at place k has the place k; place_none: a word that is not listed has the place past the last
--     word_of-place       a word that has a place stands there
-- Assumes nothing.
use Prim.Native.Nat.{ℕ, zero, suc, ◌+◌, ◌<◌}
use native.Mathlib.Omega.{arith}
use mathlib.Core.Path.{◌≡◌, refl, ap}
use mathlib.Core.Logic.{inl, inr}
use mathlib.Core.Bool.{Bool, true, false, cond}
use mathlib.Core.List.{List, [], ◌∷◌, ◌++◌, map}
use lib.ListN.{length, get_or}
use Rattle.numbering.specs.Dictionary.{Earlier, keep, place_in, same_list, startings, words}
use Rattle.numbering.proofs.Theory.Each.{Every, every_map}
use Rattle.numbering.proofs.Theory.ClassSize.{same_equal, same_refl}

every_append : (P : List ℕ → Type 0) (us vs : List (List ℕ)) → Every P us → Every P vs → Every P (us ++ vs)
every_append P [] vs h k = k
every_append P (u ∷ us) vs h k = (h.0, every_append P us vs h.1 k)

every_after : (P : List ℕ → Type 0) (a : ℕ) (ws : List (List ℕ)) → Every (λ w. P (a ∷ w)) ws → Every P (map (λ (w : List ℕ). a ∷ w) ws)
every_after P a [] h = tt
every_after P a (w ∷ ws) h = (h.0, every_after P a ws h.1)

-- What holds of each word after each of these letters holds of all startings.
pub every_starting : (P : List ℕ → Type 0) (m k : ℕ) (ws : List (List ℕ))
    → ((a : ℕ) → k < suc a → a < k + m → Every (λ w. P (a ∷ w)) ws) → Every P (startings m k ws)
every_starting P zero k ws h = tt
every_starting P (suc m) k ws h =
    every_append P (map (λ (w : List ℕ). k ∷ w) ws) (startings m (suc k) ws) (every_after P k ws (h k (omega arith) (omega arith)))
    (every_starting P m (suc k) ws (λ a l u. h a (omega arith) (omega arith)))

pub every_at : (P : List ℕ → Type 0) (ws : List (List ℕ)) (k : ℕ) → Every P ws → k < length ws → P (get_or ws k [])
every_at P [] k h l = absurd (omega arith)
every_at P (w ∷ ws) zero h l = h.0
every_at P (w ∷ ws) (suc k) h l = every_at P ws k h.1 (omega arith)

-- Words that pass a test do so, and keep what all words have.
pub keep-passes : (test : List ℕ → Bool) (ws : List (List ℕ)) → Every (λ w. test w ≡ true) (keep test ws)
keep-passes test [] = tt
keep-passes test (w ∷ ws) = go (test w) refl (keep-passes test ws)
  where
    go : (b : Bool) → test w ≡ b → Every (λ w. test w ≡ true) (keep test ws) → Every (λ w. test w ≡ true) (cond b (w ∷ keep test ws) (keep test ws))
    go true e h = (e, h)
    go false e h = h

pub keep_every : (P : List ℕ → Type 0) (test : List ℕ → Bool) (ws : List (List ℕ)) → Every P ws → Every P (keep test ws)
keep_every P test [] h = tt
keep_every P test (w ∷ ws) h = go (test w) (keep_every P test ws h.1)
  where
    go : (b : Bool) → Every P (keep test ws) → Every P (cond b (w ∷ keep test ws) (keep test ws))
    go true k = (h.0, k)
    go false k = k

-- ---- order

abbrev pub Ordered : List (List ℕ) → Type 0
Ordered [] = Unit {0}
Ordered (w ∷ ws) = Every (Earlier w) ws × Ordered ws

ordered_append : (us vs : List (List ℕ)) → Ordered us → Ordered vs → Every (λ u. Every (Earlier u) vs) us → Ordered (us ++ vs)
ordered_append [] vs h k e = k
ordered_append (u ∷ us) vs h k e = (every_append (Earlier u) us vs h.0 e.0, ordered_append us vs h.1 k e.1)

ordered_behind : (a : ℕ) (ws : List (List ℕ)) → Ordered ws → Ordered (map (λ (w : List ℕ). a ∷ w) ws)
ordered_behind a [] h = tt
ordered_behind a (w ∷ ws) h = (
  every_after (Earlier (a ∷ w)) a ws (every_map (Earlier w) (λ v. Earlier (a ∷ w) (a ∷ v)) ws (λ v e. inr (refl, e)) h.0),
  ordered_behind a ws h.1,
)

anything : (ws : List (List ℕ)) → Every (λ w. Unit {0}) ws
anything [] = tt
anything (w ∷ ws) = (tt, anything ws)

startings_ordered : (m k : ℕ) (ws : List (List ℕ)) → Ordered ws → Ordered (startings m k ws)
startings_ordered zero k ws h = tt
startings_ordered (suc m) k ws h =
    ordered_append (map (λ (w : List ℕ). k ∷ w) ws) (startings m (suc k) ws) (ordered_behind k ws h) (startings_ordered m (suc k) ws h)
    (every_after (λ u. Every (Earlier u) (startings m (suc k) ws)) k ws (every_map (λ w. Unit {0}) (λ w. Every (Earlier (k ∷ w)) (startings m (suc k) ws)) ws
    (λ u t. every_starting (Earlier (k ∷ u)) m (suc k) ws
    (λ a l b. every_map (λ w. Unit {0}) (λ v. Earlier (k ∷ u) (a ∷ v)) ws (λ v s. inl (omega arith)) (anything ws)))
    (anything ws)))

pub words_ordered : (n l : ℕ) → Ordered (words n l)
unfolding words
words_ordered n zero = (tt, tt)
words_ordered n (suc l) = startings_ordered n 1 (words n l) (words_ordered n l)

pub keep_ordered : (test : List ℕ → Bool) (ws : List (List ℕ)) → Ordered ws → Ordered (keep test ws)
keep_ordered test [] h = tt
keep_ordered test (w ∷ ws) h = go (test w) (keep_ordered test ws h.1)
  where
    go : (b : Bool) → Ordered (keep test ws) → Ordered (cond b (w ∷ keep test ws) (keep test ws))
    go true k = (keep_every (Earlier w) test ws h.0, k)
    go false k = k

-- ---- places

pub ordered_later : (ws : List (List ℕ)) (i j : ℕ) → Ordered ws → i < j → j < length ws → Earlier (get_or ws i []) (get_or ws j [])
ordered_later [] i j h l b = absurd (omega arith)
ordered_later (w ∷ ws) i zero h l b = absurd (omega arith)
ordered_later (w ∷ ws) zero (suc j) h l b = every_at (Earlier w) ws j h.0 (omega arith)
ordered_later (w ∷ ws) (suc i) (suc j) h l b = ordered_later ws i j h.1 (omega arith) (omega arith)

-- A word is earlier than every longer one that begins with it, and that one is not the earlier.
pub earlier-shorter : (u v : List ℕ) (y : ℕ) → Earlier u (u ++ y ∷ v)
earlier-shorter [] v y = tt
earlier-shorter (x ∷ u) v y = inr (refl, earlier-shorter u v y)

pub earlier_longer : (u v : List ℕ) (y : ℕ) → Earlier (u ++ y ∷ v) u → ⊥
earlier_longer [] v y h = h
earlier_longer (x ∷ u) v y (inl l) = omega arith
earlier_longer (x ∷ u) v y (inr e) = earlier_longer u v y e.1

-- No word is earlier than itself.
pub never_earlier : (w : List ℕ) → Earlier w w → ⊥
never_earlier [] h = h
never_earlier (a ∷ w) (inl l) = omega arith
never_earlier (a ∷ w) (inr e) = never_earlier w e.1

pub place_of_word : (ws : List (List ℕ)) (k : ℕ) → Ordered ws → k < length ws → place_in (get_or ws k []) ws ≡ k
place_of_word [] k h l = absurd (omega arith)
place_of_word (w ∷ ws) zero h l = rw (same_refl w)
place_of_word (w ∷ ws) (suc k) h l = go (same_list w (get_or ws k [])) refl (place_of_word ws k h.1 (omega arith))
  where
    go : (b : Bool) → same_list w (get_or ws k []) ≡ b → place_in (get_or ws k []) ws ≡ k → cond b 0 (suc (place_in (get_or ws k []) ws)) ≡ suc k
    go true e ih = absurd (never_earlier w (rw (← same_equal w (get_or ws k []) e) at (every_at (Earlier w) ws k h.0 (omega arith))))
    go false e ih = ap suc ih

-- A word that is not listed has the place past the last.
pub place_none : (w : List ℕ) (ws : List (List ℕ)) → Every (λ v. same_list v w ≡ false) ws → place_in w ws ≡ length ws
place_none w [] h = refl
place_none w (v ∷ vs) h = rw h.0 (ap suc (place_none w vs h.1))

pub word_of-place : (w : List ℕ) (ws : List (List ℕ)) → place_in w ws < length ws → get_or ws (place_in w ws) [] ≡ w
word_of-place w [] l = absurd (omega arith)
word_of-place w (v ∷ vs) l = go (same_list v w) refl l (word_of-place w vs)
  where
    go : (b : Bool) → same_list v w ≡ b → cond b 0 (suc (place_in w vs)) < suc (length vs) → (place_in w vs < length vs → get_or vs (place_in w vs) [] ≡ w)
        → get_or (v ∷ vs) (cond b 0 (suc (place_in w vs))) [] ≡ w
    go true e l ih = same_equal v w e
    go false e l ih = ih (omega arith)
