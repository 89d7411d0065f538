-- Calls on a window over a stream of letters (document 02, N8): any sequence of them, and the word that is then in the window: its letters, the oldest first.
--     Window                used count, the three lent lists and the 64 letter counts
--     Holds n v w           v is the window of the word w: inserting its letters afresh into its memory gives its used count and leaves all as it is
--     Call                  a letter arrives, or the oldest leaves
--     call_run n c v         what a call replies and leaves: an arrival is an insertion; used_after s used: the used count after a reply
--     on_word c w            the word after a call that is not refused: one letter more at its end, or its first gone; on_words: after a sequence
--     called n c v          the window after a call; called_word n c v w: the word in it, which a refused call leaves as it was
--     window_after, word_after        the same after a sequence of calls
--     arrival_judgements n w a p     4 12 13 of the letter a that arrives at the window of the word w: 4 at the place after the word
--     NoneRefused n calls v         each call of a sequence is accepted
-- That the window of a word stays one whatever is called is window-after of proofs/Theory/Windows. Assumes nothing.
use Rattle.std.specs.Prelude.{ℕ, suc, ◌≡◌, List, [], ◌∷◌, ◌++◌, drop, length}
use Rattle.hypoplactic.specs.Insertion.{Pair}
use Rattle.outcomes.specs.Replies.{Passes, Said, after, gives, refused}
use Rattle.outcomes.specs.Judgements.{full_judged, letters_from, pair_rooms}
use Rattle.outcomes.specs.TableauOperations.{insert_run, pair_run}
use Rattle.windows.specs.Departures.{depart_run}

pub record Window : Type 0 where
  pub used : ℕ
  pub pair : Pair
  pub counts : List ℕ

-- The pair's operation on the word, into the window's own memory, gives the used count and changes nothing.
abbrev pub Holds : ℕ → Window → List ℕ → Type 0
Holds n v w = pair_run n w v.pair v.counts ≡ (gives (v.used ∷ []), (v.pair, v.counts))

pub data Call : Type 0 where
  arrive : ℕ → Call
  leave : Call

-- What a call replies and leaves.
abbrev pub call_run : ℕ → Call → Window → Said × (Pair × List ℕ)
call_run n (arrive a) v = insert_run n v.used a v.pair v.counts
call_run n leave v = depart_run n v.used v.pair v.counts

-- What may refuse an arrival at the window of a word: the letter, a full window, and lists without room for one cell more.
abbrev pub arrival_judgements : ℕ → List ℕ → ℕ → Pair → List Said
arrival_judgements n w a p =
    letters_from n (length w) (a ∷ []) ∷ full_judged (length w)
    ∷ pair_rooms (suc (length w)) (length p.letters) (length p.marks) (length p.recording)

-- The used count after a reply,
abbrev pub used_after : Said → ℕ → ℕ
used_after (gives []) used = used
used_after (gives (k ∷ vs)) used = k
used_after (refused k p) used = used

-- and the word after a call that is not refused.
abbrev pub on_word : Call → List ℕ → List ℕ
on_word (arrive a) w = w ++ (a ∷ [])
on_word leave w = drop 1 w

-- One call.
abbrev pub called : ℕ → Call → Window → Window
called n c v =
    let r : Said × (Pair × List ℕ) = call_run n c v in
    record { used = used_after r.0 v.used; pair = r.1.0; counts = r.1.1 }

abbrev pub called_word : ℕ → Call → Window → List ℕ → List ℕ
called_word n c v w = after (call_run n c v).0 (on_word c w) w

-- A sequence of calls.
abbrev pub window_after : ℕ → List Call → Window → Window
window_after n [] v = v
window_after n (c ∷ calls) v = window_after n calls (called n c v)

abbrev pub word_after : ℕ → List Call → Window → List ℕ → List ℕ
word_after n [] v w = w
word_after n (c ∷ calls) v w = word_after n calls (called n c v) (called_word n c v w)

-- No call of the sequence is refused,
abbrev pub NoneRefused : ℕ → List Call → Window → Type 0
NoneRefused n [] v = Unit {0}
NoneRefused n (c ∷ calls) v = Passes (call_run n c v).0 × NoneRefused n calls (called n c v)

-- and then the word is this.
abbrev pub on_words : List Call → List ℕ → List ℕ
on_words [] w = w
on_words (c ∷ calls) w = on_words calls (on_word c w)
