-- A list of the accesses of both sides, filled up with the lines that are no access.
use Rattle.std.proofs.Common.{◌≡◌, List, ◌∷◌, Bool, true, false, refl, sym, ap, subst, ◌∙◌, arith, []}
use Rattle.piper_machine.specs.Types.{Side, Reader, Writer}
use Rattle.piper_machine.specs.logs.Line.{Line}
use Rattle.piper_machine.specs.logs.OneList.{AreListed, AreOrdered, FindsCount, By, by, AreOneList, Finds, Words, accesses, did, is_access, is_same, kept_if, words_after, words_of}

quiet : (line : Line) (s : Words) → is_access line ≡ false → words_after line s ≡ s
quiet line s e = grind arith

finds-any : (line : Line) (s : Words) → is_access line ≡ false → Finds line s
finds-any line s e = grind arith

module _ (finds_in : Line → Words → Type 0) (any : (line : Line) (s : Words) → is_access line ≡ false → finds_in line s) (side other : Side) (is_own : is_same side side ≡ true) (is_other : is_same other side ≡ false) where
  -- all lines of this side, among the turns
  record Filled (turns : List (By Line)) (lines : List Line) : Type 0 where
    full : List (By Line)
    order : AreOrdered finds_in full
    own : did side full ≡ lines
    others : did other full ≡ did other turns
    words : words_of full ≡ words_of turns

  abbrev Fills : List (By Line) → Type 0
  Fills turns = (lines : List Line) → did side turns ≡ accesses lines → Filled turns lines

  -- a line that is no access
  passes : (turns : List (By Line)) (line : Line) (before : List Line) → is_access line ≡ false → Filled turns before → Filled turns (line ∷ before)
  passes turns line before none rest = record {
    full = by side line ∷ rest.full;
    order = (any line (words_of rest.full) none, rest.order);
    own = ap (λ (b : Bool). kept_if b line (did side rest.full)) is_own ∙ ap (λ (x : List Line). line ∷ x) rest.own;
    others = ap (λ (b : Bool). kept_if b line (did other rest.full)) is_other ∙ rest.others;
    words = quiet line (words_of rest.full) none ∙ rest.words;
  }

  none-step : (b : Bool) (line : Line) (before : List Line) → is_access line ≡ b → [] ≡ kept_if b line (accesses before) → ([] ≡ accesses before → Filled [] before) → Filled [] (line ∷ before)
  none-step true line before is e rest = absurd cc
  none-step false line before is e rest = passes [] line before is (rest e)

  none-left : Fills []
  none-left [] e = record { full = []; order = tt; own = refl; others = refl; words = refl }
  none-left (line ∷ before) e = none-step (is_access line) line before refl e (none-left before)

  module _ (who : Side) (a : Line) (turns : List (By Line)) (finds : finds_in a (words_of turns)) (fills : Fills turns) where
    -- a turn of the other side
    other-turn : is_same side who ≡ false → Fills (by who a ∷ turns)
    other-turn same lines e =
        let rest = fills lines (ap (λ (b : Bool). kept_if b a (did side turns)) (sym same) ∙ e) in
        record {
          full = by who a ∷ rest.full;
          order = (subst (finds_in a) (sym rest.words) finds, rest.order);
          own = ap (λ (b : Bool). kept_if b a (did side rest.full)) same ∙ rest.own;
          others = ap (kept_if (is_same other who) a) rest.others;
          words = ap (words_after a) rest.words;
        }

    -- a turn of this side
    own-here : is_same side who ≡ true → (line : Line) (before : List Line) → a ≡ line → did side turns ≡ accesses before → Filled (by who a ∷ turns) (line ∷ before)
    own-here same line before e es =
        let rest = fills before es in
        record {
          full = by who a ∷ rest.full;
          order = (subst (finds_in a) (sym rest.words) finds, rest.order);
          own = ap (λ (b : Bool). kept_if b a (did side rest.full)) same ∙ ap (λ (x : List Line). a ∷ x) rest.own ∙ ap (λ (x : Line). x ∷ before) e;
          others = ap (kept_if (is_same other who) a) rest.others;
          words = ap (words_after a) rest.words;
        }

    own-line : is_same side who ≡ true → (b : Bool) (line : Line) (before : List Line) → is_access line ≡ b → a ∷ did side turns ≡ kept_if b line (accesses before)
        → (a ∷ did side turns ≡ accesses before → Filled (by who a ∷ turns) before) → Filled (by who a ∷ turns) (line ∷ before)
    own-line same true line before is e rest = own-here same line before (let here : a ≡ line = cc in here) (let there : did side turns ≡ accesses before = cc in there)
    own-line same false line before is e rest = passes (by who a ∷ turns) line before is (rest e)

    own-lines : is_same side who ≡ true → (lines : List Line) → a ∷ did side turns ≡ accesses lines → Filled (by who a ∷ turns) lines
    own-lines same [] e = absurd cc
    own-lines same (line ∷ before) e = own-line same (is_access line) line before refl e (own-lines same before)

    any-turn : (b : Bool) → is_same side who ≡ b → Fills (by who a ∷ turns)
    any-turn true same lines e = own-lines same lines (ap (λ (b : Bool). kept_if b a (did side turns)) (sym same) ∙ e)
    any-turn false same lines e = other-turn same lines e

  fills : (turns : List (By Line)) → AreOrdered finds_in turns → Fills turns
  fills [] order = none-left
  fills (by who a ∷ turns) order = any-turn who a turns order.0 (fills turns order.1) (is_same side who) refl

-- the lines of both logs in one order
pub record AllLines (finds_in : Line → Words → Type 0) (reader writer : List Line) : Type 0 where
  pub turns : List (By Line)
  pub order : AreOrdered finds_in turns
  pub reader_did : did Reader turns ≡ reader
  pub writer_did : did Writer turns ≡ writer

lines-of : (finds_in : Line → Words → Type 0) → ((line : Line) (s : Words) → is_access line ≡ false → finds_in line s) → (reader writer : List Line) → AreListed finds_in reader writer → AllLines finds_in reader writer
lines-of finds_in any reader writer list =
    let first = fills finds_in any Reader Writer refl refl list.0 list.1 reader list.2 in
    let both = fills finds_in any Writer Reader refl refl first.full first.order writer (first.others ∙ list.3) in
    record { turns = both.full; order = both.order; reader_did = both.others ∙ first.own; writer_did = both.own }

pub all-lines : (reader writer : List Line) → AreOneList reader writer → AllLines Finds reader writer
all-lines reader writer list = lines-of Finds finds-any reader writer list

counts-any : (line : Line) (s : Words) → is_access line ≡ false → FindsCount line s
counts-any line s e = grind arith

pub counted-lines : (reader writer : List Line) → AreListed FindsCount reader writer → AllLines FindsCount reader writer
counted-lines reader writer list = lines-of FindsCount counts-any reader writer list
