-- One list of what both sides did, the last first, in which each access finds what the last one
-- before it left.
use Rattle.std.specs.Prelude.{◌≡◌, ◌+◌, List, [], ◌∷◌, ◌++◌, length, take, drop, Bool, true, false, is_some, ⊤}
use Rattle.piper_machine.specs.Types.{Reader, Writer}
pub use Rattle.piper_protocol.specs.OneList.{By, by, Words, did_by as did, fresh_words, is_same, kept_if, slot_in, with_slot}
use Rattle.piper_machine.specs.logs.Line.{Line, loaded_head, loaded_tail, loaded_closed, stored_head, stored_tail, stored_closed, loaded_slot, swapped, met_head, met_tail}

-- what a line leaves
abbrev pub words_after : Line → Words → Words
words_after (stored_head bytes) s = record s { head = s.head + length bytes }
words_after (stored_tail bytes) s = record s { sent = s.sent ++ bytes }
words_after stored_closed s = record s { is_closed = true }
words_after (swapped side old left) s = with_slot side left s
words_after line s = s

-- an access found what is there
abbrev pub Finds : Line → Words → Type 0
Finds (loaded_head count) s = (count ≡ s.head)
Finds (loaded_tail count) s = (count ≡ length s.sent)
Finds (met_head count) s = (count ≡ s.head)
Finds (met_tail count) s = (count ≡ length s.sent)
Finds (loaded_closed is_closed) s = (is_closed ≡ s.is_closed)
Finds (loaded_slot side is_filled) s = (is_filled ≡ is_some (slot_in side s))
Finds (swapped side old left) s = (old ≡ slot_in side s)
Finds (stored_head bytes) s = (bytes ≡ take (length bytes) (drop s.head s.sent))
Finds line s = ⊤

-- the same of counts alone: it says nothing of the bytes that the reader took
abbrev pub FindsCount : Line → Words → Type 0
FindsCount (stored_head bytes) s = ⊤
FindsCount line s = Finds line s

abbrev pub words_of : List (By Line) → Words
words_of [] = fresh_words
words_of (by side line ∷ before) = words_after line (words_of before)

-- each finds what it is to find where the ones before it lead
abbrev pub AreOrdered : (Line → Words → Type 0) → List (By Line) → Type 0
AreOrdered finds [] = ⊤
AreOrdered finds (by side line ∷ before) = finds line (words_of before) × AreOrdered finds before

abbrev pub AreInOrder : List (By Line) → Type 0
AreInOrder turns = AreOrdered Finds turns

-- what the one list has: the accesses, and what a meet taught
abbrev pub is_access : Line → Bool
is_access (loaded_head count) = true
is_access (loaded_tail count) = true
is_access (met_head count) = true
is_access (met_tail count) = true
is_access (loaded_closed is_closed) = true
is_access (stored_head bytes) = true
is_access (stored_tail bytes) = true
is_access stored_closed = true
is_access (loaded_slot side is_filled) = true
is_access (swapped side old left) = true
is_access line = false

abbrev pub accesses : List Line → List Line
accesses [] = []
accesses (line ∷ before) = kept_if (is_access line) line (accesses before)

-- the accesses of both logs are what is left of one list, in which each finds what it is to find
abbrev pub AreListed : (Line → Words → Type 0) → List Line → List Line → Type 0
AreListed finds reader writer =
    (turns : List (By Line)) × AreOrdered finds turns
    × (did Reader turns ≡ accesses reader) × (did Writer turns ≡ accesses writer)

abbrev pub AreOneList : List Line → List Line → Type 0
AreOneList reader writer = AreListed Finds reader writer
