-- The names that many proofs of this crate cite, passed on from one place. Declares nothing.
pub use Rattle.std.proofs.Common.{◌≡◌, ℕ, ◌+◌, ◌≤◌, Bool, true, false, List, [], ◌∷◌, refl, sym, ap, arith, ◌-◌, length, ◌<◌, ◌⊎◌, inl, inr, max, leb, ◌++◌, ◌∙◌, suc, length-append, w64, ◌*◌, zero, subst, ◌^◌, w8, take, append_assoc, min, lit<, drop as drop_list, IfOk, None, Option, Result, Some, is_some, not, rules, slice_index, ◌%◌, ◌==◌}
pub use Rattle.std.proofs.Math.Seq.{take-append_seam}
pub use Rattle.std.proofs.lemmas.List.{length-drop, take-append-le, take-append-drop, length-take-le}
pub use mathlib.Core.List.{IsPrefix}
pub use mir.Syntax.{Ty, ty_int, named, ty_array}
pub use mir.Val.{Val, vstruct, vnil, of_list, vint, vptr, vunit, WT}
pub use base.Before.{before}
pub use base.Fml.{Share, Fml, GName, ftrue, fsep, finv, Lft, flft, froom, fex, fobs, fwand, fhide, fat, fauth, fshr_bor}
pub use base.Fraction.{full_share}
pub use base.Growing.{Order, numbers, prefix_refl}
unfoldable pub use base.Growing.{latest, at_least}
pub use base.Logic.{SProp, ent, sep, upd, guard, ex, upd_i, emp, emp∗, id⊢, fst∗, never, via, apply∗, snd∗}
pub use seplogic.Ra.Ura.{Ura}
pub use types.ByLocal.{alloc_all, pass_all, free_all, look_at, get, sets, env, get_in, sets_last, is, lands_last, through, take_at, give_at}
pub use types.Growing.{latest_grows, latest_shows, latest_bounds}
pub use types.Kit.{‵, raw, ◌⊛◌, some, given, ◌$◌, ◌∵◌, !, qed, by, move, keep, split, split3, fsplit, fsplit3, fjoin, fjoin3, fpack, pick, learn, check, show, frame, assume, settle, suffices, use1, use2, use3, done, drop, feq_i, fpick, rewrite, later, join, use0, updating, await, now, at_ret, flt_i, mean, group}
pub use types.Logic.{Logic, sem}
pub use types.Part.{agg, whole, sub, look_in}
pub use types.Run.{no_more, and_then, returns, enter, of_opd, unit_lit, stop, fld, lit, first, exec, blocks, init, bin, assigns_last, load, look, Calls-last}
pub use types.Tokens.{shr_bor-open, obor_close, name_agree}
pub use denote.Builtin.{u8, usize, RefOf, u64}
pub use denote.Exit.{yes, no}
pub use denote.Laws.{Is, shows}
pub use denote.Memory.{part_at, lone, shared_of, mem, hidden_shr, cell_at}
pub use denote.Opens.{unhide, hide}
pub use denote.Param.{layout}
pub use denote.Param.Send.{IsSend, Common, part_keyless, sendable, IsSync}
pub use denote.Param.Shared.{copy_shared}
pub use denote.Plain.{uint_vals, uint_Tells}
pub use denote.RattleType.{Denots, RattleType, Valss, owns}
pub use denote.RawPtr.{Ptr, block_ptr, block_of, count_of, ptr_val, null_ptr, in_a_block, at_block, InBlock}
pub use denote.Ref.{shr_vals, shr_Tells, mut_vals, mut_Tells}
pub use denote.SharingLaws.{beside_shr_laws, nothing_shr_laws, said_shr_laws, one_shr_laws}
pub use denote.Signature.{plain, types_at, named_lft}
pub use denote.Steps.{nothing, peeks, opens, closes}
pub use denote.Struct.Laws.{RawPtr-copy}
pub use denote.Struct.Lending.{Lends, Lends-both, Lends-nothing, Lends-said, Lends-first, of_Lends, lent_out}
pub use denote.Struct.Declared.{shape as declared}
pub use denote.Struct.Owning.{shape}
pub use denote.Struct.Struct.{Struct, within}
pub use denote.Struct.Tuple.{tuple_type}
pub use denote.Triple.Entry.{alive}
pub use denote.Triple.Walked.{Stays, stay_dropped, walk_of, Goes-dropped, stay_ref, Goes-ref}
pub use contract.Monad.{fact, fact_i}
pub use contract.Running.{tables}
pub use Rattle.core.proofs.atomic.Steps.{tail, guard_good}
pub use Rattle.core.proofs.slots.Bodies.{after}
pub use Rattle.core.proofs.slots.Lent.{pointer_in, pointer_out}
pub use Rattle.core.specs.Allocator.{array_of, owned_block, block_if_ok}
pub use Rattle.core.specs.Sync.RawAtomic.{asks, always}
pub use Rattle.logbook.proofs.Fields.{lends_twice}
pub use Rattle.piper_protocol.specs.ReaderIndices.{ReaderIndices}
pub use Rattle.piper_protocol.specs.WriterIndices.{WriterIndices, room_in, left_in}
pub use Rattle.piper_ring.proofs.Fields.{ghost_coded, ghost_shared, lent_val, lent_told, lent_made, LentData}
pub use Rattle.piper_ring.specs.Block.{heap_token, words_type, IsClaim, behind, purpose, size_of_block, space_of, space_room, unused}
pub use Rattle.piper_ring.specs.Places.{byte, unset, place, run_lent, places_lent, Placed}
pub use Rattle.piper_ring.specs.ReadView.{ReadView, read_view_of, in_one_piece, read_view}
pub use Rattle.piper_ring.specs.Shared.{announced, raised, Names, State, Holds, half, other, flag, mirrored, word, writer_knows, reader_knows, ends, Inner, Whole, common, slots, deeds, gone, where_gone, until_both, arrived_first, blanks, memory, reader_owns, reader_lends, writer_owns, writer_lends, took, idle, word_room, slot_rooms, all_rooms, state_holds, began, RingIsPlaced, Known, by_reader, by_writer, knows, evidence, slot_word, waits_in, wakes_in, lent_by, ring_of, Ring, block_room, closed_is, names_of, titles}
pub use Rattle.piper_ring.specs.SlotValues.{of_waits, of_wakes, IsTokenAt, IsTokenOf}
pub use Rattle.piper_ring.specs.Slot.{Stored, as_stored, nothing_stored, stored_code, Filled, filled, Lying, ticket_if, number, is_odd, Waits, Wakes, AreAt, Exchanges, IsTicket, IsRemembered, waits_code, wakes_code, both_at, both, cell, slot_at, slot}
pub use Rattle.piper_ring.specs.Streams.{Stream, Reaches, streams, reaches_same, open_reaches, reaches_trans}
pub use Rattle.piper_ring.specs.WriteView.{WriteView, IsBounded, lendable}
pub use Rattle.rtrb.proofs.Asks.{Lies}
pub use Rattle.rtrb.proofs.Calls.{fm, seq_cst, found, finds, swaps, stored, has_stored, stores, loads}
pub use Rattle.rtrb.proofs.Positions.{slot_small, slot_add, slot_turn, slot_lt}
pub use Rattle.rtrb.proofs.Spans.{run_join, span_join, span_map}
pub use Rattle.rtrb.proofs.Values.{pair_val, pair_of}
pub use Rattle.rtrb.proofs.Walks.{proved, leaves}
unfoldable pub use Rattle.rtrb.specs.Fifo.{position_of, slot_of}
pub use Rattle.rtrb.specs.Shared.{run, span}
pub use Rattle.std_alloc.proofs.RcSteps.{word-Good}
pub use Rattle.piper_cells.proofs.Fields.{GhostData, PointerData, ghost_made, ghost_told, ghost_val, owns_of, pointer_made, pointer_told, pointer_val}
pub use Rattle.piper_cells.specs.TokenCell.{right}
pub use Rattle.piper_protocol.specs.declared.table.Found.{Found}
pub use Rattle.piper_protocol.specs.declared.table.Point.{Point}
pub use Rattle.piper_protocol.specs.OneList.{Access, AreInOrder, AreOneList, By, FindsWords, Words, loaded_closed, loaded_head, loaded_slot, loaded_tail, slot_in, stored_closed, stored_head, stored_tail, swapped, with_slot, words_after}
unfoldable pub use Rattle.piper_protocol.specs.Told.{are_told, moved_in, seen_in}
pub use Rattle.piper_protocol.specs.declared.log.Note.TheVariants.{Began, ClosedLoaded, Made, Told}
pub use Rattle.piper_protocol.specs.Index.{distance}
pub use Rattle.piper_protocol.specs.LendBound.{lend_bound}
pub use Rattle.std.specs.Coded.{Coded, coded_bool, coded_ℕ}
pub use Rattle.piper_protocol.specs.declared.table.Side.TheVariants.{Reader, Writer}
pub use Rattle.piper_ring.specs.Trace.{access_code, bytes_code, closed_name, did_owns, head_name, side_of, slot_name, tail_name, ticket_code, trace, traced}
pub use Rattle.std.proofs.lemmas.Bool.{false≢true}
pub use denote.RawPtr.Room.{past, room_cut, room_glue}
pub use Rattle.piper_ring.specs.Loads.{FoundConsumed, FoundPublished}
pub use base.Shift.{Keyless}
pub use Rattle.piper_cells.specs.Space.{lease}
pub use Rattle.std.proofs.lemmas.Bool.Decides.{leb_tells}
pub use denote.Slice.{elements_shared, slice_val}
pub use types.SemTy.{cells}
pub use Rattle.piper_protocol.specs.Lines.{accesses_in}
pub use Rattle.piper_ring.specs.Log.{AreSides, IsLogOf, MayNote, did}
unfoldable pub use Rattle.piper_ring.specs.Log.{accesses_of}
pub use Rattle.piper_ring.specs.declared.log.Log.{Log}
pub use denote.Sharing.{ShrLaws, said}
pub use types.Match.{live}
pub use Rattle.core.proofs.alloc.Calls.{Answer}
pub use denote.Struct.Field.{RawPtr-field}
pub use Rattle.piper_ring.specs.Parts.{IsPlaced, token_of}
pub use Rattle.piper_protocol.specs.declared.table.TheConstants.{MOST_A_ROUND}
pub use Rattle.std.proofs.lemmas.Grind.{common_steps}
pub use Rattle.piper_cells.proofs.Signs.{signs}
pub use Rattle.piper_ring.specs.Lends.{written}
