-- One list of accesses is one of lines. Assumes nothing.
use Rattle.std.proofs.Common.{◌≡◌, Bool, List, ◌∷◌, refl, sym, ap, ◌∙◌, subst, arith, []}
use Rattle.piper_machine.specs.Types.{Side, Reader, Writer}
use Rattle.piper_protocol.specs.OneList as handle
use Rattle.piper_machine.specs.logs.Line.{Line}
use Rattle.piper_machine.specs.logs.Listed.{line_of, lines_of}
use Rattle.piper_machine.specs.logs.OneList.{By, by, Words, did, is_same, kept_if, accesses, words_after, words_of, AreListed, AreOrdered, FindsCount}

lined : List (By handle.Access) → List (By Line)
lined [] = []
lined (by side access ∷ before) = by side (line_of access) ∷ lined before

same_after : (a : handle.Access) (s : Words) → words_after (line_of a) s ≡ handle.words_after a s
same_after a s = grind arith

finds : (a : handle.Access) (s : Words) → handle.FindsWords a s → FindsCount (line_of a) s
finds a s e = grind arith

same_words : (turns : List (By handle.Access)) → words_of (lined turns) ≡ handle.words_of turns
unfolding lined
same_words [] = refl
same_words (by side a ∷ before) = ap (words_after (line_of a)) (same_words before) ∙ same_after a (handle.words_of before)

ordered : (turns : List (By handle.Access)) → handle.AreInOrder turns → AreOrdered FindsCount (lined turns)
unfolding lined
ordered [] o = tt
ordered (by side a ∷ before) o = (subst (FindsCount (line_of a)) (sym (same_words before)) (finds a (handle.words_of before) o.0), ordered before o.1)

kept : (b : Bool) (a : handle.Access) (rest : List handle.Access) → kept_if b (line_of a) (lines_of rest) ≡ lines_of (kept_if b a rest)
kept b a rest = grind arith

did_lines : (side : Side) (turns : List (By handle.Access)) → did side (lined turns) ≡ lines_of (did side turns)
unfolding lined
did_lines side [] = refl
did_lines side (by other a ∷ before) = ap (kept_if (is_same side other) (line_of a)) (did_lines side before) ∙ kept (is_same side other) a (did side before)

pub listed : (reader writer : List Line) (a b : List handle.Access) → handle.AreOneList a b → accesses reader ≡ lines_of a → accesses writer ≡ lines_of b → AreListed FindsCount reader writer
listed reader writer a b one er ew = (
  lined one.0,
  ordered one.0 one.1,
  did_lines Reader one.0 ∙ ap lines_of one.2 ∙ sym er,
  did_lines Writer one.0 ∙ ap lines_of one.3 ∙ sym ew,
)
