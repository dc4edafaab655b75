-- What clients draw from the clauses of the calls that don't wait.
use Rattle.std.proofs.Common.{◌≡◌, ◌∙◌, ◌+◌, ◌-◌, ◌<◌, ◌≤◌, ℕ, Bool, true, false, true≢false, List, [], ◌∷◌, ◌++◌, take, drop, length, refl, sym, ap, append-nil, length-append, length-take-le, arith}
use Rattle.std.proofs.Math.Seq.{take-add}
use Rattle.std.proofs.lemmas.Grind.{common_steps}
use Rattle.std.proofs.lemmas.List.{append_cancel_left, nil_from_length, take_all, take_rest, take-take}
use borrow.Rule.Slice.PartMut.{put_mid}
use native.Mathlib.Decide.{dec_lt}
use Rattle.piper_protocol.specs.Lines.{Line, access, before_of, first_of, met as meets, note}
use Rattle.piper_protocol.specs.Told.{have_met, is_idle}
use Rattle.piper_protocol.specs.declared.answer.Answer.{Answer}
use Rattle.piper_protocol.specs.declared.log.Note.TheVariants.{Began, ClosedLoaded, Drew, Made, Passed, Told}
use Rattle.piper_protocol.specs.declared.table.Point.{Point}
use Rattle.piper_ring.specs.Log.{AreRuns, Log, Ran}
use Rattle.piper_ring.specs.ReadView.{ReadView}
use Rattle.piper_ring.specs.WriteView.{WriteView}
use Rattle.piper.specs.Handles.{AreFresh}
use Rattle.piper.specs.ReaderCalls.{Drained, Meets, ReaderTried}
use Rattle.piper.specs.WriterCalls.{Filled, WriterTried}
use Rattle.piper.specs.declared.handles.Reader.{Reader}
use Rattle.piper.specs.declared.handles.Writer.{Writer}

-- who has not closed the pipe, and would have if it was seen closed, did not see it closed
pub saw_none : (shut saw : Bool) → (saw ≡ true → shut ≡ true) → shut ≡ false → saw ≡ false
saw_none shut false seen is_open = refl
saw_none shut true seen is_open = absurd (true≢false (sym (seen refl) ∙ is_open))

no_less : (n m : ℕ) → (n < m → ⊥) → m ≤ n
no_less n m never = elim (dec_lt n m) [ yes less ↦ absurd (never less) | no more ↦ omega (arith, more) ]

-- none is left where there is place for more, nor where all places are taken
none_left : (left n space : ℕ) → (n < space → left ≡ 0) → n ≤ space → left + n ≤ space → left ≡ 0
none_left left n space none within fits = elim (dec_lt n space) [ yes less ↦ none less | no more ↦ omega (arith, more, within, fits) ]

-- a fill publishes all that it is given, where there is room for it and the pipe was not seen closed
pub filled_all : (n : ℕ) (a b : Writer) (bytes : List ℕ) → Filled n a b bytes → 0 < a.side.end.room → length bytes ≤ a.side.end.room → b.side.end.saw ≡ false
    → b.side.end.sent ≡ a.side.end.sent ++ bytes
filled_all n a b bytes filled some fits unseen =
    let sent : b.side.end.sent ≡ a.side.end.sent ++ take n bytes = filled.all unseen in
    let count : length b.side.end.sent ≡ length a.side.end.sent + n =
    ap length sent ∙ length-append a.side.end.sent (take n bytes) ∙ ap (λ k. length a.side.end.sent + k) (length-take-le n bytes filled.count) in
    let all : length bytes ≤ n = no_less n (length bytes) (λ less. omega (arith, less, fits, filled.most less unseen, filled.room some, count)) in
    sent ∙ ap (λ xs. a.side.end.sent ++ xs) (take_all n bytes all)

-- a drain takes all bytes that are known, where there is place for them
pub drained_all : (n : ℕ) (a b : Reader) (old new : List ℕ) → Drained n a b old new → 0 < length a.side.end.known → length a.side.end.known ≤ length old → length new ≡ length old
    → (take n new ≡ a.side.end.known) × (b.side.end.known ≡ [])
drained_all n a b old new drained some fits same =
    let came : take n new ++ b.side.end.known ≡ a.side.end.known = drained.known some in
    let count : length (take n new) ≡ n = length-take-le n new (omega (arith, drained.count, same)) in
    let left : length b.side.end.known ≡ 0 =
    none_left (length b.side.end.known) n (length old) (λ less. ap length (drained.most less)) drained.count (omega (arith, count, ap length came, length-append (take n new) b.side.end.known, fits)) in
    let none : b.side.end.known ≡ [] = nil_from_length b.side.end.known left in
    (sym (append-nil (take n new)) ∙ sym (ap (λ xs. take n new ++ xs) none) ∙ came, none)

-- what a fill published of a slice, into an open pipe of which all was taken before, a drain takes
-- after the handles met
pub filled_and_drained : (n m : ℕ) (q r s : Reader) (v w x : Writer) (source old new : List ℕ) → Filled n v w source → Meets q r w x
    → Drained m r s old new → q.side.end.taken ≡ v.side.end.sent → x.side.end.shut ≡ false → 0 < n → length source ≤ length old → length new ≡ length old
    → take m new ≡ take m source
filled_and_drained n m q r s v w x source old new filled met drained emptied unshut some room long =
    let saw : x.side.end.saw ≡ w.side.end.saw = ap (λ (u : WriteView). u.saw) met.writer in
    let published : x.side.end.sent ≡ w.side.end.sent = ap (λ (u : WriteView). u.sent) met.writer in
    let taken : r.side.end.taken ≡ q.side.end.taken = ap (λ (u : ReadView). u.taken) met.reader in
    let sent = filled.all (sym saw ∙ saw_none _ _ met.writer_saw unshut) in
    let known : r.side.end.known ≡ take n source = append_cancel_left r.side.end.taken _ _ (cc) in
    let count = filled.count in
    let found : 0 < length r.side.end.known = grind (arith, common_steps) in
    let all = drained_all _ _ _ _ _ drained found (grind (arith, common_steps)) long in
    all.0 ∙ known ∙ ap (λ k. take k source) (grind (arith, common_steps))

-- a slice that fills a new pipe comes out whole, once the handles met
pub carried : (n m : ℕ) (q r s : Reader) (v w x : Writer) (source old new : List ℕ) → AreFresh (length source) q v → WriterTried n v w source → Meets q r w x
    → ReaderTried m r s old new → 0 < length source → length source ≤ length old → length new ≡ length old → take m new ≡ source
carried n m q r s v w x source old new fresh filled met drained some room long =
    let unshut = ap (λ (u : WriteView). u.shut) met.writer ∙ ap (λ (u : WriteView). u.shut) filled.copied.rest ∙ fresh.writer.shut in
    let unseen = sym (ap (λ (u : WriteView). u.saw) met.writer) ∙ saw_none _ _ met.writer_saw unshut in
    let places = fresh.writer.room in
    let sent = filled_all _ _ _ _ filled.filled (omega (arith, some, places)) (omega (arith, places)) unseen in
    let taken = ap (λ (u : ReadView). u.taken) met.reader ∙ fresh.reader.taken in
    let known : r.side.end.known ≡ source =
    sym (ap (λ xs. xs ++ r.side.end.known) taken) ∙ met.fifo ∙ ap (λ (u : WriteView). u.sent) met.writer ∙ sent ∙ ap (λ xs. xs ++ source) fresh.writer.sent in
    let count = ap length known in
    (drained_all _ _ _ _ _ drained.drained (omega (arith, some, count)) (omega (arith, room, count)) long).0 ∙ known

-- a place whose first i bytes are those of the text, once a part from there on begins with the next
-- m bytes of the text
pub next_part : (i m k : ℕ) (xs ys text : List ℕ) → i ≤ length xs → m ≤ length ys → take i xs ≡ take i text → take m ys ≡ take m (take (length text - i) (drop i text))
    → take (i + m) (put_mid i k xs ys) ≡ take (i + m) text
next_part i m k xs ys text within fits front next = grind (arith, common_steps, take-add, take_rest)

-- the same, where the part is of a piece of the text that ends before the text does, as
-- `&bytes[a..b]`
pub next_piece : (i m n k : ℕ) (xs ys text : List ℕ) → i ≤ length xs → m ≤ length ys → m ≤ n → take i xs ≡ take i text → take m ys ≡ take m (take n (drop i text))
    → take (i + m) (put_mid i k xs ys) ≡ take (i + m) text
next_piece i m n k xs ys text within fits short front piece =
    let next : take m ys ≡ take m (drop i text) = piece ∙ take-take m n (drop i text) short in
    grind (arith, common_steps, take-add)

-- a call is none in which the handles met
apart : (lines before : List Line) → is_idle (first_of lines) ≡ false → before_of lines ≡ before → have_met lines ≡ have_met before
unfolding have_met
apart [] before some same = absurd (true≢false some)
apart (note (Began first) ∷ rest) before some same = ap have_met same
apart (meets count ∷ rest) before some same = absurd (true≢false some)
apart (note (Made found) ∷ rest) before some same = apart rest before some same
apart (note (Told found) ∷ rest) before some same = apart rest before some same
apart (note Passed ∷ rest) before some same = apart rest before some same
apart (note (ClosedLoaded none is_closed) ∷ rest) before some same = apart rest before some same
apart (note (Drew is_drawn) ∷ rest) before some same = apart rest before some same
apart (access a ∷ rest) before some same = apart rest before some same

pub ran_apart : (start : Point) (answer : Answer) (a b : Log) → is_idle start ≡ false → Ran start answer a b → have_met b.lines ≡ have_met a.lines
unfolding Ran
ran_apart start answer a b some ran = apart b.lines a.lines (ap is_idle ran.first ∙ some) ran.before

-- calls that were made after others are one list with them

after_same : (calls : List (Point × Answer)) (a b c : Log) → b.lines ≡ a.lines → AreRuns calls b c → AreRuns calls a c
unfolding Ran
after_same [] a b c same runs = runs ∙ same
after_same (call ∷ calls) a b c same runs = (runs.0, record { first = runs.1.first; before = runs.1.before ∙ same; now = runs.1.now }, runs.2)

pub runs_joined : (calls more : List (Point × Answer)) (a b c : Log) → AreRuns calls a b → AreRuns more b c → AreRuns (calls ++ more) a c
runs_joined [] more a b c runs then = after_same more a b c runs then
runs_joined (call ∷ calls) more a b c runs then = (runs.0, runs.1, runs_joined calls more runs.0 b c runs.2 then)

pub runs_and_one : (calls : List (Point × Answer)) (start : Point) (answer : Answer) (a b c : Log) → AreRuns calls a b → Ran start answer b c
    → AreRuns (calls ++ (start, answer) ∷ []) a c
runs_and_one calls start answer a b c runs ran = runs_joined calls ((start, answer) ∷ []) a b c runs (c, ran, refl)
