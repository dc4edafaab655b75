-- What a side does in one step after another.
use Rattle.std.proofs.Common.{◌≡◌, ◌<◌, ◌+◌, ℕ, Bool, true, false, List, [], ◌++◌, Option, refl, sym, ap, ◌∙◌, append_assoc, append-nil, arith, subst, length, length-append}
use Rattle.std.proofs.KnownBytes.{Consumes-nil, Consumes-trans, Appends-nil, Appends-trans, Appends-kept}
use Rattle.std.specs.Io.KnownBytes.{Keeps}
use Rattle.piper.specs.ReadView.{ReadView}
use Rattle.piper.specs.WriteView.{WriteView}
use Rattle.piper_ring.specs.Looks.{ReaderLooked, WriterLooked}
use Rattle.piper_transfer.specs.Taken.{StaysTaken}
use Rattle.piper_transfer.specs.Transfer.{Fed, Gets, PouredAll}

pub fed_none : (i : Option (List ℕ)) (a : WriteView) → Fed i i a a
fed_none i a = record { given = []; consumed = Consumes-nil i; sent = sym (append-nil a.sent); ring = refl }

pub fed_more : (i j k : Option (List ℕ)) (a b c : WriteView) → Fed i j a b → Fed j k b c → Fed i k a c
fed_more i j k a b c p q = record {
  given = p.given ++ q.given;
  consumed = Consumes-trans i j k p.given q.given p.consumed q.consumed;
  sent = q.sent ∙ ap (λ xs. xs ++ q.given) p.sent ∙ append_assoc a.sent p.given q.given;
  ring = q.ring ∙ p.ring;
}

-- what the end published stays so
pub fed_same : (i j : Option (List ℕ)) (a b c : WriteView) → Fed i j a b → c.sent ≡ b.sent → c.ring ≡ b.ring → Fed i j a c
fed_same i j a b c p sent ring = record { given = p.given; consumed = p.consumed; sent = sent ∙ p.sent; ring = ring ∙ p.ring }

-- what was given before a look, and after it
pub fed_looked : (i j : Option (List ℕ)) (a b c : WriteView) → Fed i j a b → WriterLooked b c → Fed i j a c
fed_looked i j a b c p look = fed_same i j a b c p (ap (λ (v : WriteView). v.sent) look.rest) (ap (λ (v : WriteView). v.ring) look.rest)

-- what was given before the handles met, and after it
pub fed_still : (i j : Option (List ℕ)) (a b c : WriteView) → Fed i j a b → c ≡ record b { room = c.room } → Fed i j a c
fed_still i j a b c p met = fed_same i j a b c p (ap (λ (v : WriteView). v.sent) met) (ap (λ (v : WriteView). v.ring) met)

pub fed_met : (i j : Option (List ℕ)) (a b c : WriteView) → b ≡ record a { room = b.room } → Fed i j b c → Fed i j a c
fed_met i j a b c met p = fed_more i i j a b c (fed_still i i a a b (fed_none i a) met) p

pub fed_round : (i j k : Option (List ℕ)) (a b c d : WriteView) → Fed i j a b → WriterLooked b c → Fed j k c d → Fed i k a d
fed_round i j k a b c d p look q = fed_more i j k a c d (fed_looked i j a b c p look) q

-- the output was given nothing, or one piece after another
pub gets_none : {D : Type 0} (C : D → Option (List ℕ)) (T : D → List (List ℕ) → List ℕ → Type 0) (d : D) → Gets C T d d []
gets_none C T d = record { appended = Appends-nil (C d); more = λ names m taken. subst (T d names) (sym (append-nil m)) taken }

gets_more : {D : Type 0} (C : D → Option (List ℕ)) (T : D → List (List ℕ) → List ℕ → Type 0) (d e f : D) (xs ys : List ℕ)
    → Gets C T d e xs → Gets C T e f ys → Gets C T d f (xs ++ ys)
gets_more C T d e f xs ys p q = record {
  appended = Appends-trans (C d) (C e) (C f) xs ys p.appended q.appended;
  more = λ names m taken. subst (T f names) (append_assoc m xs ys) (q.more names (m ++ xs) (p.more names m taken));
}

-- an output that keeps what it has, as where it is flushed
gets_kept : {D : Type 0} (C : D → Option (List ℕ)) (T : D → List (List ℕ) → List ℕ → Type 0) (d e f : D) (xs : List ℕ)
    → Gets C T d e xs → Keeps (C e) (C f) → StaysTaken T e f → Gets C T d f xs
gets_kept C T d e f xs p kept stays = record {
  appended = Appends-kept (C d) (C e) (C f) xs p.appended kept;
  more = λ names m taken. stays names (m ++ xs) (p.more names m taken);
}

pub poured_none : {D : Type 0} (C : D → Option (List ℕ)) (T : D → List (List ℕ) → List ℕ → Type 0) (d : D) (a : ReadView) → PouredAll C T d d a a
poured_none C T d a = record { written = []; gets = gets_none C T d; taken = sym (append-nil a.taken); ring = refl; capacity = refl }

pub poured_more : {D : Type 0} (C : D → Option (List ℕ)) (T : D → List (List ℕ) → List ℕ → Type 0) (d e f : D) (a b c : ReadView)
    → PouredAll C T d e a b → PouredAll C T e f b c → PouredAll C T d f a c
poured_more C T d e f a b c p q = record {
  written = p.written ++ q.written;
  gets = gets_more C T d e f p.written q.written p.gets q.gets;
  taken = q.taken ∙ ap (λ xs. xs ++ q.written) p.taken ∙ append_assoc a.taken p.written q.written;
  ring = q.ring ∙ p.ring;
  capacity = q.capacity ∙ p.capacity;
}

pub poured_same : {D : Type 0} (C : D → Option (List ℕ)) (T : D → List (List ℕ) → List ℕ → Type 0) (d e : D) (a b c : ReadView)
    → PouredAll C T d e a b → c ≡ record b { known = c.known; saw = c.saw; all = c.all } → PouredAll C T d e a c
poured_same C T d e a b c p same = record {
  written = p.written;
  gets = p.gets;
  taken = ap (λ (v : ReadView). v.taken) same ∙ p.taken;
  ring = ap (λ (v : ReadView). v.ring) same ∙ p.ring;
  capacity = ap (λ (v : ReadView). v.capacity) same ∙ p.capacity;
}

-- a meet changes nothing but what a look changes
pub met_same : (a b : ReadView) → b ≡ record a { known = b.known; all = b.all } → b ≡ record a { known = b.known; saw = b.saw; all = b.all }
met_same a b met = subst (λ (v : ReadView). v ≡ record a { known = v.known; saw = v.saw; all = v.all }) (sym met) refl

-- what was written before a look, and after it
pub poured_looked : {D : Type 0} (C : D → Option (List ℕ)) (T : D → List (List ℕ) → List ℕ → Type 0) (d e : D) (a b c : ReadView)
    → PouredAll C T d e a b → ReaderLooked b c → PouredAll C T d e a c
poured_looked C T d e a b c p look = poured_same C T d e a b c p look.rest

pub poured_met : {D : Type 0} (C : D → Option (List ℕ)) (T : D → List (List ℕ) → List ℕ → Type 0) (d e : D) (a b c : ReadView)
    → b ≡ record a { known = b.known; all = b.all } → PouredAll C T d e b c → PouredAll C T d e a c
poured_met C T d e a b c met p = poured_more C T d d e a b c (poured_same C T d d a a b (poured_none C T d a) (met_same a b met)) p

not_seen : (saw : Bool) → ¬ (saw ≡ true) → saw ≡ false
not_seen true seen = absurd (seen refl)
not_seen false seen = refl

pub poured_round : {D : Type 0} (C : D → Option (List ℕ)) (T : D → List (List ℕ) → List ℕ → Type 0) (d e f : D) (a b c r : ReadView)
    → PouredAll C T d e a b → ReaderLooked b c → PouredAll C T e f c r → PouredAll C T d f a r
poured_round C T d e f a b c r p look q = poured_more C T d e f a c r (poured_looked C T d e a b c p look) q

-- an output that keeps what it has, as where it is flushed
pub poured_kept : {D : Type 0} (C : D → Option (List ℕ)) (T : D → List (List ℕ) → List ℕ → Type 0) (d e f : D) (a b : ReadView)
    → PouredAll C T d e a b → Keeps (C e) (C f) → StaysTaken T e f → PouredAll C T d f a b
poured_kept C T d e f a b p kept stays = record { written = p.written; gets = gets_kept C T d e f p.written p.gets kept stays; taken = p.taken; ring = p.ring; capacity = p.capacity }

-- where all that was known was taken, all that was published is
pub taken_all : (r0 r1 r2 : ReadView) (w0 w1 : WriteView)
    → r0.taken ++ r0.known ≡ w0.sent → r1.taken ++ r1.known ≡ r0.taken ++ r0.known → r1.known ≡ []
    → r2.taken ≡ r1.taken → w1.sent ≡ w0.sent → r2.taken ≡ w1.sent
taken_all r0 r1 r2 w0 w1 fifo known none taken sent =
    taken ∙ sym (append-nil r1.taken) ∙ ap (λ xs. r1.taken ++ xs) (sym none) ∙ known ∙ fifo ∙ sym sent

-- where all that was known was taken, and both handles met again, the whole pipe is room
pub room_again : (r0 r1 r2 : ReadView) (w0 w1 : WriteView)
    → r0.taken ++ r0.known ≡ w0.sent → r1.taken ++ r1.known ≡ r0.taken ++ r0.known → r1.known ≡ []
    → r2.taken ≡ r1.taken → r2.taken ++ r2.known ≡ w1.sent → w1.sent ≡ w0.sent
    → w1.room + length r2.known ≡ r2.capacity → 0 < r2.capacity → 0 < w1.room
room_again r0 r1 r2 w0 w1 fifo known none taken again sent room some =
    let whole = ap length (again ∙ sent ∙ sym fifo ∙ sym known) in
    let same = ap length taken in
    let no_more = ap length none in
    omega (arith, whole, same, no_more, room, some, length-append r2.taken r2.known, length-append r1.taken r1.known)
