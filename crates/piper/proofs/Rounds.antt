-- A whole round of a copy, in the words of the call table: it leads to where the next one begins.
use Rattle.std.proofs.Common.{◌≡◌, ℕ, ◌+◌, ◌==◌, Bool, false, List, ap, ◌∙◌, refl}
use Rattle.piper_protocol.specs.OneList.{loaded_closed, stored_head, stored_tail}
use Rattle.piper_protocol.specs.Table.{Next, goes_on}
use Rattle.piper_protocol.specs.declared.table.Form.{Form}
use Rattle.piper_protocol.specs.declared.table.Found.TheVariants.{Flag as flag, Moved, Nothing, Waker as waker}
use Rattle.piper_protocol.specs.declared.table.Point.{Point}
use Rattle.piper_protocol.specs.declared.table.Point.TheVariants.{Reader, Writer}
use Rattle.piper_protocol.specs.declared.table.ReadPoint.TheVariants.{CallDestination}
use Rattle.piper_protocol.specs.declared.table.WritePoint.TheVariants.{CallSource}
use Rattle.piper_ring.specs.Log.{Comes, Log, did, made, now, then, told}

-- of a drain: the destination took bytes, and their places were given back
pub round_out : (form : Form) (sum n : ℕ) (bytes : List ℕ) (start b c d e : Log)
    → Comes (goes_on (Reader (CallDestination form sum))) start b → c ≡ made (Moved n) b
    → (n == 0) ≡ false → d ≡ told Nothing (did (stored_head bytes) c)
    → Comes (then (now d) (waker false)) d e
    → Comes (goes_on (Reader (CallDestination form (sum + n)))) start e
round_out form sum n bytes start b c d e before moved some stored woke =
    let made_of : Next Point → Next Point = λ p. then (then (then p (Moved n)) Nothing) (waker false) in
    let last = rw (stored, moved) at woke in record {
      first = last.first ∙ before.first;
      before = last.before ∙ before.before;
      now = last.now ∙ ap made_of before.now ∙ rw some refl;
    }

-- of a fill: the source gave bytes to an open pipe, and they were published
pub round_in : (form : Form) (sum n : ℕ) (is_closed : Bool) (bytes : List ℕ) (start b c l d e : Log)
    → Comes (goes_on (Writer (CallSource form sum))) start b → c ≡ made (Moved n) b
    → (n == 0) ≡ false → l ≡ told (flag is_closed) (did (loaded_closed is_closed) c)
    → is_closed ≡ false → d ≡ told Nothing (did (stored_tail bytes) l)
    → Comes (then (now d) (waker false)) d e
    → Comes (goes_on (Writer (CallSource form (sum + n)))) start e
round_in form sum n is_closed bytes start b c l d e before moved some loaded opened stored woke =
    let made_of : Next Point → Next Point =
    λ p. then (then (then (then p (Moved n)) (flag is_closed)) Nothing) (waker false) in
    let last = rw (stored, loaded, moved) at woke in record {
      first = last.first ∙ before.first;
      before = last.before ∙ before.before;
      now = last.now ∙ ap made_of before.now ∙ rw (some, opened) refl;
    }
