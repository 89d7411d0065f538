-- Where the grammar breaks: at the end of the longest beginning of the text that goes on to some line of the kind.
--     w_breaks, t_breaks, c_breaks, p_breaks, n_breaks     a reading is broken with the rest from p on exactly when the kind breaks at p
--     w_place, t_place, c_place, p_place, n_place          a broken reading's kind breaks at the text's length less what is left
-- Assumes nothing.
use Prim.Native.Nat.{ℕ, suc, ◌+◌, ◌-◌, ◌≤◌, ◌<◌}
use mathlib.Core.Path.{◌≡◌, refl, sym, ap, ◌∙◌, subst}
use mathlib.Core.Logic.{◌↔◌}
use mathlib.Core.List.{List, [], ◌∷◌, ◌++◌, append_assoc}
use native.Mathlib.Decide.{dec_le}
use native.Mathlib.Omega.{arith}
use lib.ListN.{length, take, drop, get_or, length-append, length-drop, take-append-drop}
use lib.Seq.{take_at, append_snoc, drop_at, drop-cons, take-suc, take-take}
use Rattle.grammar.specs.Lines.{w_line, t_line, c_line, p_line, n_line}
use Rattle.grammar.specs.Values.{Small, WGood, TGood, CGood, PGood}
use Rattle.grammar.specs.Breaks.{Breaks, IsW, IsT, IsC, IsP, IsN}
use Rattle.grammar.specs.Reading.{Read, got, broken, read_w, read_t, read_c, read_p, read_n}
use Rattle.grammar.proofs.Theory.Exact.{Broke, Exact, not_both}
use Rattle.grammar.proofs.Theory.LinesExact.{w_exact, t_exact, c_exact, p_exact, n_exact}
use Rattle.grammar.proofs.Theory.Complete.{w_complete, t_complete, c_complete, p_complete, n_complete}
use Rattle.grammar.proofs.Theory.Sound.{w_sound, t_sound, c_sound, p_sound, n_sound}

-- A kind breaks at one place only.
breaks_once : (Line : List ℕ → Type 0) (text : List ℕ) (p q : ℕ) → Breaks Line text p → Breaks Line text q → p ≤ q
breaks_once Line text p q x y = elim (dec_le p q) [ yes h ↦ h | no h ↦ absurd (later (omega arith)) ]
  where
    later : q < p → ⊥
    later h =
        let more : List ℕ = drop (suc q) (take p text) in
        let e : take p text ≡ take (suc q) text ++ more =
        sym (take-append-drop (suc q) (take p text)) ∙ ap (λ (l : List ℕ). l ++ more) (take-take (suc q) p text h) in
        let g : take p text ++ x.tail ≡ take (suc q) text ++ (more ++ x.tail) =
        ap (λ (l : List ℕ). l ++ x.tail) e ∙ append_assoc (take (suc q) text) more x.tail in
        let w : p ≤ length text = x.within in
        y.stops (more ++ x.tail) (omega arith) (subst Line g x.begins)

-- The texts that are written of good values.
abbrev Written : {A : Type 0} → (A → Type 0) → (A → List ℕ) → List ℕ → Type 0
Written {A} Good put text = (a : A) × Good a × (text ≡ put a)

-- A kind of line: its reader is exact, takes what is written of good values, and takes nothing else.
record Kind {A : Type 0} (Good : A → Type 0) (put : A → List ℕ) (get : List ℕ → Read A) : Type 0 where
  exact : Exact Good put get
  reads : (a : A) → Good a → get (put a) ≡ got a []
  takes : (text : List ℕ) (a : A) (rest : List ℕ) → get text ≡ got a rest → Written Good put text

module _ {A : Type 0} {Good : A → Type 0} {put : A → List ℕ} {get : List ℕ → Read A} (kind : Kind Good put get) where
  -- Where the reading breaks, the kind does.
  broken_breaks : (text : List ℕ) (p : ℕ) → p ≤ length text → get text ≡ broken (drop p text) → Breaks (Written Good put) text p
  broken_breaks text p h e =
      let b : Broke Good put get text (drop p text) = kind.exact.broke text (drop p text) e in
      let d : length text ≡ length b.begun + (length text - p) = ap length b.parts ∙ simp (length-append, length-drop) in
      let t : take p text ≡ b.begun = ap (take p) b.parts ∙ take_at b.begun (drop p text) p (omega arith) in
      record {
        within = h;
        tail = b.tail;
        begins = (b.value, b.good, ap (λ (l : List ℕ). l ++ b.tail) t ∙ sym b.goes_on);
        stops = λ z lt l.
            let c : ℕ = get_or text p 0 in
            let g : take (suc p) text ++ z ≡ b.begun ++ (c ∷ z) =
            ap (λ (v : List ℕ). v ++ z) (take-suc text p 0 lt) ∙ append_snoc (take p text) c z ∙ ap (λ (v : List ℕ). v ++ (c ∷ z)) t in
            not_both (sym (kind.reads l.0 l.1) ∙ ap get (sym l.2 ∙ g) ∙ b.stays c (drop (suc p) text) z (drop-cons text p 0 lt));
        none = λ l. not_both (sym (kind.reads l.0 l.1) ∙ ap get (sym l.2) ∙ e);
      }

  -- What is left where the reading breaks is the text from a place on.
  broken_place : (text rest : List ℕ) → get text ≡ broken rest → (length rest ≤ length text) × (drop (length text - length rest) text ≡ rest)
  broken_place text rest e =
      let b : Broke Good put get text rest = kind.exact.broke text rest e in
      let d : length text ≡ length b.begun + length rest = ap length b.parts ∙ length-append b.begun rest in
      (omega arith, ap (drop (length text - length rest)) b.parts ∙ drop_at b.begun rest (length text - length rest) (omega arith))

  -- The place: the text's length less what is left.
  place_breaks : (text rest : List ℕ) → get text ≡ broken rest → Breaks (Written Good put) text (length text - length rest)
  place_breaks text rest e =
      let d : (length rest ≤ length text) × (drop (length text - length rest) text ≡ rest) = broken_place text rest e in
      broken_breaks text (length text - length rest) (omega arith) (rw d.1 e)

  -- Where the kind breaks, the reading does.
  breaks_broken : (text : List ℕ) (p : ℕ) → Breaks (Written Good put) text p → get text ≡ broken (drop p text)
  breaks_broken text p h = go (get text) refl
    where
      go : (x : Read A) → get text ≡ x → get text ≡ broken (drop p text)
      go (got a rest) e = absurd (h.none (kind.takes text a rest e))
      go (broken rest) e =
          let q : ℕ = length text - length rest in
          let k : Breaks (Written Good put) text q = place_breaks text rest e in
          let one : p ≤ q = breaks_once (Written Good put) text p q h k in
          let two : q ≤ p = breaks_once (Written Good put) text q p k h in
          let same : p ≡ q = omega arith in
          e ∙ ap broken (sym (broken_place text rest e).1 ∙ ap (λ (n : ℕ). drop n text) (sym same))

  exactly : (text : List ℕ) (p : ℕ) → Breaks (Written Good put) text p ↔ ((p ≤ length text) × (get text ≡ broken (drop p text)))
  exactly text p = (λ h. (h.within, breaks_broken text p h), λ h. broken_breaks text p h.0 h.1)

w_kind : Kind WGood (λ v. w_line v.0 v.1) read_w
w_kind =
    record {
      exact = w_exact;
      reads = λ v g. w_complete v.0 v.1 g.0 g.1;
      takes = λ text v rest h. let r = w_sound text v.0 v.1 rest h in (v, (r.2, r.3), r.0);
    }

t_kind : Kind TGood (λ v. t_line v.0 v.1 v.2) read_t
t_kind =
    record {
      exact = t_exact;
      reads = λ v g. t_complete v.0 v.1 v.2 g.0 g.1 g.2;
      takes = λ text v rest h. let r = t_sound text v.0 v.1 v.2 rest h in (v, (r.2, r.3, r.4), r.0);
    }

c_kind : Kind CGood (λ v. c_line v.0 v.1 v.2) read_c
c_kind =
    record {
      exact = c_exact;
      reads = λ v g. c_complete v.0 v.1 v.2 g;
      takes = λ text v rest h. let r = c_sound text v.0 v.1 v.2 rest h in (v, r.2, r.0);
    }

p_kind : Kind PGood (λ v. p_line v.0 v.1 v.2 v.3) read_p
p_kind =
    record {
      exact = p_exact;
      reads = λ v g. p_complete v.0 v.1 v.2 v.3 g.0 g.1 g.2 g.3 g.4;
      takes = λ text v rest h. let r = p_sound text v.0 v.1 v.2 v.3 rest h in (v, (r.2, r.3, r.4, r.5, r.6), r.0);
    }

n_kind : Kind Small n_line read_n
n_kind =
    record {
      exact = n_exact;
      reads = n_complete;
      takes = λ text xs rest h. let r = n_sound text xs rest h in (xs, r.2, r.0);
    }

-- A W reading breaks with the text from p on exactly when W lines break at p.
pub w_breaks : (text : List ℕ) (p : ℕ) → Breaks IsW text p ↔ ((p ≤ length text) × (read_w text ≡ broken (drop p text)))
w_breaks = exactly w_kind

-- So with T lines.
pub t_breaks : (text : List ℕ) (p : ℕ) → Breaks IsT text p ↔ ((p ≤ length text) × (read_t text ≡ broken (drop p text)))
t_breaks = exactly t_kind

-- So with C lines.
pub c_breaks : (text : List ℕ) (p : ℕ) → Breaks IsC text p ↔ ((p ≤ length text) × (read_c text ≡ broken (drop p text)))
c_breaks = exactly c_kind

-- So with P lines.
pub p_breaks : (text : List ℕ) (p : ℕ) → Breaks IsP text p ↔ ((p ≤ length text) × (read_p text ≡ broken (drop p text)))
p_breaks = exactly p_kind

-- So with N lines.
pub n_breaks : (text : List ℕ) (p : ℕ) → Breaks IsN text p ↔ ((p ≤ length text) × (read_n text ≡ broken (drop p text)))
n_breaks = exactly n_kind

-- Where a W reading is broken, W lines break at the text's length less what is left.
pub w_place : (text rest : List ℕ) → read_w text ≡ broken rest → Breaks IsW text (length text - length rest)
w_place = place_breaks w_kind

-- So with T lines.
pub t_place : (text rest : List ℕ) → read_t text ≡ broken rest → Breaks IsT text (length text - length rest)
t_place = place_breaks t_kind

-- So with C lines.
pub c_place : (text rest : List ℕ) → read_c text ≡ broken rest → Breaks IsC text (length text - length rest)
c_place = place_breaks c_kind

-- So with P lines.
pub p_place : (text rest : List ℕ) → read_p text ≡ broken rest → Breaks IsP text (length text - length rest)
p_place = place_breaks p_kind

-- So with N lines.
pub n_place : (text rest : List ℕ) → read_n text ≡ broken rest → Breaks IsN text (length text - length rest)
n_place = place_breaks n_kind
