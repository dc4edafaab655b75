-- The seats may cross threads and be shared by them. Assumes nothing.
use Rattle.piper_ring.proofs.Kit.{ℕ, Bool, true, false, List, ◌+◌, ◌-◌, length, Share, Fml, latest, at_least, Ptr, u8, IsSend, Common, sendable, slots, deeds, Names, State, flag, gone, where_gone, until_both, writer_knows, reader_knows, arrived_first, ends, blanks, memory, Inner, common, reader_owns, reader_lends, writer_owns, writer_lends, drop_list, Keyless, purpose, size_of_block, lease, slice_index, is_some, Access, did_owns}
use Rattle.std.proofs.Crossing.{frees}
use Rattle.piper_ring.specs.Shared.{rights, slot_of, spare}
use Rattle.piper_ring.proofs.Evidence.{evidence-Keyless}
use Rattle.piper_cells.proofs.CellCrosses.{right-Keyless}
use Rattle.piper_ring.proofs.PlacesLaws.{run-Keyless, span-Keyless}

pub where-Keyless : (b : Bool) (F : Fml) → Keyless F → Keyless (where_gone b F)
where-Keyless false F k = tt
where-Keyless true F k = k

pub did-Keyless : (names : List ℕ) (keeps reads : Bool) (did : List Access) → Keyless (did_owns names keeps reads did)
did-Keyless names true reads did = tt
did-Keyless names false reads did = tt

module _ (w p : Ptr) (z : Names) where
  writer-Keyless : (q : Share) (l : List ℕ) (n : ℕ) (b : Bool) (i : ℕ) → Keyless (writer_knows w p z q l n b i)
  unfolding latest
  writer-Keyless q l n b i = (tt, (tt, tt))

  reader-Keyless : (q : Share) (h k i : ℕ) → Keyless (reader_knows w p z q h k i)
  unfolding latest
  reader-Keyless q h k i = ((tt, tt), tt)

  ends-Keyless : (b : Bool) → Keyless (ends w p z b)
  unfolding latest
  ends-Keyless b = tt

  slot-Keyless : (r : Bool) → Keyless (slot_of w p z r)
  slot-Keyless r s = ((λ _. tt), ((tt, tt), (right-Keyless true (slice_index z.cells s.0) (is_some s.1), λ b. ((λ _. tt), (evidence-Keyless z r b.1.1, (tt, tt))))))

  slots-Keyless : Keyless (slots w p z)
  slots-Keyless = (slot-Keyless true, slot-Keyless false)

  rights-Keyless : Keyless (rights w p z)
  rights-Keyless = (frees.frees (record { memory = record { seal = tt } }) (purpose (size_of_block z.capacity)) w, ((λ _. tt), tt))

  deeds-Keyless : (u : State) → Keyless (deeds w p z u)
  deeds-Keyless u = ((((((((tt, (tt, (tt, tt))), (tt, tt)), tt), tt), tt), rights-Keyless), (where-Keyless (gone u.reader_stage) (lease z.life true) tt, where-Keyless (gone u.writer_stage) (lease z.life false) tt)), slots-Keyless)

  spare-Keyless : IsSend u8 → (k n : ℕ) → Keyless (spare w p z k n)
  spare-Keyless s k n xs = ((λ _. tt), run-Keyless p z.capacity s k xs)

  unless-Keyless : (a b : Bool) (F : Fml) → Keyless F → Keyless (until_both a b F)
  unless-Keyless true true F k = tt
  unless-Keyless false b F k = k
  unless-Keyless true false F k = k

  memory-Keyless : IsSend u8 → (u : State) → Keyless (memory w p z u)
  memory-Keyless s u = (
    ((tt, tt), ((tt, tt), ((tt, tt), tt))),
    (
      run-Keyless p z.capacity s u.seen (drop_list u.seen u.sent),
      (
        spare-Keyless s u.limit (u.head + z.capacity - u.limit),
        (where-Keyless (gone u.reader_stage) (blanks w p z u.head (u.seen - u.head)) (span-Keyless p z.capacity (u.seen - u.head) u.head), (where-Keyless (gone u.writer_stage) (blanks w p z (length u.sent) (u.limit - length u.sent)) (span-Keyless p z.capacity (u.limit - length u.sent) (length u.sent)), deeds-Keyless u)),
      ),
    ),
  )

  inner-Keyless : IsSend u8 → Keyless (Inner w p z)
  inner-Keyless s u = ((λ _. tt), ((writer-Keyless _ _ _ _ _, (reader-Keyless _ _ _ _, ends-Keyless _)), unless-Keyless (gone u.reader_stage) (gone u.writer_stage) (memory w p z u) (memory-Keyless s u)))

  common-Keyless : Keyless (common w p z)
  common-Keyless = let s : IsSend u8 = search sendable in ((λ _. tt), (inner-Keyless s, λ turns. ((λ _. tt), ((tt, tt), (tt, (tt, (tt, (tt, tt))))))))

  arrived-Keyless : (k : ℕ) (l : List ℕ) → Keyless (arrived_first w p z k l)
  unfolding at_least
  arrived-Keyless k l = ((λ _. tt), tt)

  pub reader_owns-Keyless : (h k : ℕ) (l : List ℕ) (b : Bool) → Keyless (reader_owns w p z h k l b)
  reader_owns-Keyless h k l b = (common-Keyless, (reader-Keyless _ h k (flag b), arrived-Keyless k l))

  pub writer_owns-Keyless : (l : List ℕ) (n : ℕ) (a : Bool) → Keyless (writer_owns w p z l n a)
  writer_owns-Keyless l n a = (common-Keyless, writer-Keyless _ l n a 0)

  pub reader_lends-Common : (h k : ℕ) (b : Bool) → Common (reader_lends w p z h k b)
  reader_lends-Common h k b κ = (common-Keyless, λ q. reader-Keyless q h k (flag b))

  pub writer_lends-Common : (l : List ℕ) (n : ℕ) (a : Bool) → Common (writer_lends w p z l n a)
  writer_lends-Common l n a κ = (common-Keyless, λ q. writer-Keyless q l n a 0)
