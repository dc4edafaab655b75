-- What a client sends and prints in one step after another.
use Rattle.std.proofs.Common.{◌≡◌, ◌+◌, ◌≤◌, ◌∙◌, refl, sym, ap, subst, arith, Bool, true, ℕ, List, [], ◌++◌, take, drop, length, length-append, append_assoc, append-nil, take-append-drop, Option, Result, Ok, Err, IfOk, IfErr, OnOk}
use Rattle.std.proofs.Math.Seq.{drop-append-le}
use Rattle.std.specs.Io.KnownBytes.{Consumes, IsAtEnd}
use Rattle.std.proofs.KnownBytes.{Appends-nil, Appends-trans, Consumes-nil, Consumes-trans}
use Rattle.piper_lines.specs.Sends.{Sends}
use Rattle.piper_lines.proofs.Sending.{sends_none, sends_both, sends_front}
use Rattle.piper_duplex.specs.Client.{CameBack, Prints, SendsOn}

-- nothing was taken, and nothing printed
pub prints_none : (t : List ℕ) (o : Option (List ℕ)) → Prints t t o o
prints_none t o = record { bytes = []; taken = sym (append-nil t); printed = Appends-nil o }

pub prints_then : (t0 t1 t2 : List ℕ) (o0 o1 o2 : Option (List ℕ)) → Prints t0 t1 o0 o1 → Prints t1 t2 o1 o2 → Prints t0 t2 o0 o2
prints_then t0 t1 t2 o0 o1 o2 first second = record {
  bytes = first.bytes ++ second.bytes;
  taken = second.taken ∙ ap (λ ws. ws ++ second.bytes) first.taken ∙ append_assoc t0 first.bytes second.bytes;
  printed = Appends-trans o0 o1 o2 first.bytes second.bytes first.printed second.printed;
}

-- the front without its first n bytes, and then the rest
with_rest : (xs : List ℕ) (n k : ℕ) → n ≤ length (take k xs) → drop n (take k xs) ++ drop k xs ≡ drop n xs
with_rest xs n k within = sym (drop-append-le n (take k xs) (drop k xs) within) ∙ ap (λ ws. drop n ws) (take-append-drop k xs)

-- of what is left after n bytes, some of the first k bytes were sent
pub sends_part : (xs s1 s2 : List ℕ) (k n m : ℕ) (saw1 saw2 : Bool) → n ≤ length (take k xs) → m ≤ length (take k xs)
    → Sends (drop n (take k xs)) (drop m (take k xs)) s1 s2 saw1 saw2 → Sends (drop n xs) (drop m xs) s1 s2 saw1 saw2
sends_part xs s1 s2 k n m saw1 saw2 before after sends =
    let whole = sends_front (drop n (take k xs)) (drop m (take k xs)) (drop k xs) s1 s2 saw1 saw2 sends in
    let from : Sends (drop n xs) (drop m (take k xs) ++ drop k xs) s1 s2 saw1 saw2 = subst (λ ws. Sends ws (drop m (take k xs) ++ drop k xs) s1 s2 saw1 saw2) (with_rest xs n k before) whole in
    subst (λ ws. Sends (drop n xs) ws s1 s2 saw1 saw2) (with_rest xs m k after) from

module _ {E : Type 0} where
  -- nothing was read, and nothing sent
  pub sent_none : (n : ℕ) (i : Option (List ℕ)) (s : List ℕ) (saw : Bool) (t : List ℕ) → n ≡ 0 → SendsOn {E = E} (Ok n) i i s s saw saw t t
  sent_none n i s saw t none = record { given = []; left = []; read = Consumes-nil i; sent = sends_none [] s saw saw; all = (refl, omega (arith, none)) }

  counted : (answer : Result ℕ E) (n : ℕ) (t0 t1 t2 given bytes left : List ℕ) → length t0 + length given ≡ length t1 + n
      → IfOk answer (λ m. (left ≡ []) × (length t1 + n + length bytes ≡ length t2 + m))
      → IfOk answer (λ m. (left ≡ []) × (length t0 + length (given ++ bytes) ≡ length t2 + m))
  counted (Ok m) n t0 t1 t2 given bytes left before all = (all.0, omega (arith, before, all.1, length-append given bytes))
  counted (Err e) n t0 t1 t2 given bytes left before all = tt

  -- then these bytes were read, and sent but for those that are left
  pub sent_then : (answer : Result ℕ E) (n : ℕ) (i0 i1 i2 : Option (List ℕ)) (bytes left s0 s1 s2 : List ℕ) (saw0 saw1 saw2 : Bool) (t0 t1 t2 : List ℕ)
      → SendsOn {E = E} (Ok n) i0 i1 s0 s1 saw0 saw1 t0 t1 → Consumes i1 i2 bytes → Sends bytes left s1 s2 saw1 saw2
      → (saw0 ≡ true → saw1 ≡ true) → (saw1 ≡ true → saw2 ≡ true)
      → IfOk answer (λ m. (left ≡ []) × (length t1 + n + length bytes ≡ length t2 + m)) → SendsOn {E = E} answer i0 i2 s0 s2 saw0 saw2 t0 t2
  sent_then answer n i0 i1 i2 bytes left s0 s1 s2 saw0 saw1 saw2 t0 t1 t2 first read sends stays0 stays1 all = record {
    given = first.given ++ bytes;
    left = left;
    read = Consumes-trans i0 i1 i2 first.given bytes first.read read;
    sent = subst (λ ws. Sends (first.given ++ bytes) (ws ++ left) s0 s2 saw0 saw2) first.all.0
        (sends_both first.given first.left bytes left s0 s1 s2 saw0 saw1 saw2 first.sent first.all.0 sends stays0 stays1);
    all = counted answer n t0 t1 t2 first.given bytes left first.all.1 all;
  }

  -- nothing more was read
  pub sent_all : (n m : ℕ) (i0 i1 i2 : Option (List ℕ)) (bytes s0 s1 : List ℕ) (saw0 saw1 : Bool) (t0 t1 : List ℕ)
      → SendsOn {E = E} (Ok n) i0 i1 s0 s1 saw0 saw1 t0 t1 → Consumes i1 i2 bytes → bytes ≡ [] → m ≡ n → SendsOn {E = E} (Ok m) i0 i2 s0 s1 saw0 saw1 t0 t1
  sent_all n m i0 i1 i2 bytes s0 s1 saw0 saw1 t0 t1 first read none same = record {
    given = first.given;
    left = first.left;
    read = subst (λ xs. Consumes i0 i2 xs) (append-nil first.given) (Consumes-trans i0 i1 i2 first.given [] first.read (subst (λ xs. Consumes i1 i2 xs) none read));
    sent = first.sent;
    all = (first.all.0, omega (arith, first.all.1, same));
  }

  -- once the n bytes are printed that were still to come, as many are printed as were read
  pub came_back : (n : ℕ) (i0 i1 : Option (List ℕ)) (s0 s1 : List ℕ) (saw0 saw1 : Bool) (t0 t1 t2 : List ℕ) (o0 o1 o2 : Option (List ℕ))
      → SendsOn {E = E} (Ok n) i0 i1 s0 s1 saw0 saw1 t0 t1 → IsAtEnd i1 → Prints t0 t1 o0 o1 → Prints t1 t2 o1 o2
      → length t2 ≡ length t1 + n → CameBack i0 i1 o0 o2
  came_back n i0 i1 s0 s1 saw0 saw1 t0 t1 t2 o0 o1 o2 sends ended first second whole = record {
    given = sends.given;
    printed = first.bytes ++ second.bytes;
    read = sends.read;
    ended = ended;
    written = Appends-trans o0 o1 o2 first.bytes second.bytes first.printed second.printed;
    all = omega (arith, sends.all.1, whole, length-append first.bytes second.bytes, ap length first.taken, length-append t0 first.bytes, ap length second.taken, length-append t1 second.bytes);
  }

-- what follows from what holds of an answer
pub on_ok : {A E : Type 0} (r : Result A E) (P Q : Type 0) → OnOk r P → (P → Q) → OnOk r Q
on_ok (Ok x) P Q holds so = so holds
on_ok (Err e) P Q holds so = tt

-- what follows from what holds of an error
pub if_err : {A E : Type 0} (r : Result A E) (P Q : E → Type 0) → IfErr r P → ((e : E) → P e → Q e) → IfErr r Q
if_err (Ok x) P Q holds so = tt
if_err (Err e) P Q holds so = so e holds
