-- Demand 3 of the scope, as one theorem (theorem a). The statement is `FaithfulLines` of specs/Classes.antt: lines shared exactly by joined words,
-- moves that respect joining, recording ribbons that moves keep.
--     faithful              the core: any line that tells tableaux apart, any set of allowed moves, no bound on rank or length
--     classes               demand 3: at every rank, for any two words accepted at it, with the tableau line and the moves of that rank
-- Around it: that the claim is not vacuous stands in Examples, that joined words get one refusal number from every move in JoinedReplies, that
-- joining is the same-class test and decidable in OneClass. Assumes nothing.
use Prim.Native.Nat.{ℕ, zero, suc, zero-le}
use native.Mathlib.Nat.{le_refl}
use mathlib.Core.Path.{◌≡◌, refl, sym, ◌∙◌, ap₂, subst₂}
use mathlib.Core.Bool.{Bool, true, false, cond}
use mathlib.Core.List.{List, [], ◌∷◌}
use mathlib.Core.Logic.{◌↔◌}
use mathlib.Core.Option.{Option, none, some, map, none-ne-some, some-injective}
use Rattle.grammar.specs.Lines.{t_line}
use Rattle.grammar.specs.Values.{Marked, Stepped}
use Rattle.grammar.proofs.Theory.Determined.{t_determined}
use Rattle.hypoplactic.specs.Rewriting.{Joined}
use Rattle.hypoplactic.specs.Ribbons.{Tableau, Along, LetterStep}
use Rattle.hypoplactic.specs.Insertion.{letters_of, marks_of}
use Rattle.quasi_crystal.specs.Moves.{Move, Defined, moved_word, moved_tableau, move_word, index_of}
use Rattle.quasi_crystal.specs.Classes.{tableau_line, Faithful, FaithfulLines}
use Rattle.hypoplactic.proofs.Theory.NormalForm.{same_tableau_joined}
use Rattle.hypoplactic.proofs.Theory.Boundary.{tableau_of_word}
use Rattle.hypoplactic.proofs.Theory.Invariants.{joined_tableau}
use Rattle.quasi_crystal.proofs.Theory.MoveRecording.{move_recording}
use Rattle.quasi_crystal.proofs.Theory.MoveTableau.{tableau_answer}

-- ---- moves on words of one tableau

-- Both results are defined and have one tableau, or neither is defined.
abbrev pub Alike : Option (List ℕ) → Option (List ℕ) → Type 0
Alike none none = Unit {0}
Alike none (some v) = ⊥
Alike (some u) none = ⊥
Alike (some u) (some v) = (letters_of u ≡ letters_of v) × (marks_of u ≡ marks_of v)

alike-defined : (o p : Option (List ℕ)) → Alike o p → Defined o ↔ Defined p
alike-defined none none h = (λ x. x, λ x. x)
alike-defined none (some v) h = absurd h
alike-defined (some u) none h = absurd h
alike-defined (some u) (some v) h = (λ x. x, λ x. x)

-- A move on two words of one tableau.
pub moves_alike : (m : Move) (u v : List ℕ) → letters_of u ≡ letters_of v → marks_of u ≡ marks_of v → Alike (moved_word m u) (moved_word m v)
moves_alike m u v p q = go (moved_word m u) (moved_word m v) refl refl (sym (tableau_answer m u) ∙ ap₂ (moved_tableau m) p q ∙ tableau_answer m v)
  where
    go : (o r : Option (List ℕ)) → moved_word m u ≡ o → moved_word m v ≡ r → map letters_of (moved_word m u) ≡ map letters_of (moved_word m v) → Alike o r
    go none none e f h = tt
    go none (some v') e f h = absurd (none-ne-some (letters_of v') (rw (e, f) at h))
    go (some u') none e f h = absurd (none-ne-some (letters_of u') (sym (rw (e, f) at h)))
    go (some u') (some v') e f h =
        (some-injective (letters_of u') (letters_of v') (rw (e, f) at h), (move_recording m u u' e).1 ∙ q ∙ sym (move_recording m v v' f).1)

-- The same where only some moves are allowed.
allowed-alike : (b : Bool) (o p : Option (List ℕ)) → Alike o p → Alike (cond b o none) (cond b p none)
allowed-alike true o p h = h
allowed-alike false o p h = tt

pub allowed-defined : (b : Bool) (o : Option (List ℕ)) (v : List ℕ) → cond b o none ≡ some v → o ≡ some v
allowed-defined true o v e = e
allowed-defined false o v e = absurd (none-ne-some v e)

-- ---- the claim

-- The core: for any line that tells tableaux apart, and for any moves allowed, of any two words.
pub faithful : {A : Type 0} (line : List ℕ → List ℕ → A) (allowed : Move → Bool)
    → ((xs ms ys ns : List ℕ) → Tableau xs ms → Tableau ys ns → line xs ms ≡ line ys ns → (xs ≡ ys) × (ms ≡ ns))
    → (u v : List ℕ) → Faithful (λ w. line (letters_of w) (marks_of w)) (λ m w. cond (allowed m) (moved_word m w) none) u v
faithful line allowed tells u v =
    record {
      shared = (
        λ e.
            let t = tells (letters_of u) (marks_of u) (letters_of v) (marks_of v) (tableau_of_word u) (tableau_of_word v) e in
            same_tableau_joined u v t.0 t.1,
        λ j. let t = joined_tableau j in ap₂ line t.0 t.1,
      );
      together = λ j m. alike-defined (cond (allowed m) (moved_word m u) none) (cond (allowed m) (moved_word m v) none) (alike j m);
      results = λ j m u' v' e f. let t = subst₂ Alike e f (alike j m) in ap₂ line t.0 t.1;
      recordings = λ m u' e. (move_recording m u u' (allowed-defined (allowed m) (moved_word m u) u' e)).0;
    }
  where
    alike : Joined u v → (m : Move) → Alike (cond (allowed m) (moved_word m u) none) (cond (allowed m) (moved_word m v) none)
    alike j m = let t = joined_tableau j in allowed-alike (allowed m) (moved_word m u) (moved_word m v) (moves_alike m u v t.0 t.1)

-- A tableau's marks are such as its line shows.
stepped : (x : ℕ) (xs ms : List ℕ) → Along LetterStep x xs ms → Stepped xs ms
stepped x [] [] h = tt
stepped x (y ∷ ys) (zero ∷ ms) h = (zero-le, stepped y ys ms h.1)
stepped x (y ∷ ys) (suc zero ∷ ms) h = (le_refl 1, stepped y ys ms h.1)
stepped x (y ∷ ys) (suc (suc m) ∷ ms) h = absurd h.0
stepped x [] (_ ∷ ms) h = elim h [ ]
stepped x (y ∷ ys) [] h = elim h [ ]

pub marked : (xs ms : List ℕ) → Tableau xs ms → Marked xs ms
marked [] [] h = tt
marked (x ∷ xs) (m ∷ ms) h = (h.0, stepped x xs ms h.1)
marked [] (m ∷ ms) h = elim h [ ]
marked (x ∷ xs) [] h = elim h [ ]

-- The T line tells tableaux apart.
pub line-tells : (n : ℕ) (xs ms ys ns : List ℕ) → Tableau xs ms → Tableau ys ns → t_line n xs ms ≡ t_line n ys ns → (xs ≡ ys) × (ms ≡ ns)
line-tells n xs ms ys ns h k e = let t = t_determined n n xs ys ms ns (marked xs ms h) (marked ys ns k) e in (t.1, t.2)

-- Demand 3. For any rank n and any two words u and v accepted at it: (1) their tableau lines are equal byte for byte exactly when a chain of rewriting
-- steps joins them; (2) if a chain joins them, each of the two moves with every index is defined on both or on neither, and the results' tableau
-- lines are equal; (3) each move keeps the recording ribbon wherever it is defined.
pub classes : FaithfulLines
unfolding tableau_line move_word
classes n u v a b = faithful (t_line n) (λ m. index_of n m.index) (line-tells n) u v
