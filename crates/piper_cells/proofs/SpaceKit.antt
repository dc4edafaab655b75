-- The names that the proofs of this crate cite, passed on from one place. Declares nothing.
pub use Rattle.std.proofs.Common.{◌≡◌, ℕ, ◌+◌, Bool, true, false, List, [], ◌∷◌, ◌++◌, T, refl, sym, ap, ◌∙◌, subst}
pub use seplogic.Ra.Ura.{Ura}
pub use mir.Syntax.{Ty, named, a_type, dcons, dnil}
pub use mir.MapTy.{inst_fn}
pub use mir.Val.{Val, WT, vstruct, vcons, vnil, of_list, vptr, has_ty}
pub use base.Fraction.{full_share}
pub use base.Logic.{SProp, ent, sep, wand, emp, upd_i, apply∗, id⊢}
pub use base.Fml.{Lft, Incl-trans, Share, Fml, ftrue, fsep, fwand, fupd, fhide, fdead, froom, flft, fbor, fobor, finv}
unfoldable pub use base.Fml.{fseps}
pub use prog.Memory.{align}
pub use prog.Wp.{WpFn}
pub use contract.BorrowLft.{◌⊑◌, meet_⊑_left, meet_⊑_right}
pub use contract.Monad.{fact, fact_i}
pub use contract.Running.{tables}
pub use types.Logic.{Logic, sem, lfts}
pub use types.Kit.{‵, raw, ◌⊛◌, later, await, at_ret, ◌$◌, ◌∵◌, !, qed, by, move, keep, drop, split, split3, join, group, fsplit, fsplit3, fjoin, fpick, fpack, assume, suffices, rewrite, updating, now, done, feq_i, use0, use1, use2, fjoin3, given, learn, pick, some}
pub use types.Run.{stop, fld, hop, load, look, init, addr, of_opd, no_more, and_then, first, blocks, exec, assigns_last, returns, enter}
pub use types.ByLocal.{alloc_all, pass_all, free_all, look_at, get, get_in, through, sets, sets_last, is, env}
pub use types.Part.{agg, sub, whole}
pub use types.Tokens.{lft_new, lft_end, bor_new, bor_open, lent_back, obor_alter}
pub use denote.Exit.{yes, no}
pub use denote.Builtin.{u64, RawPtr, RefOf}
pub use denote.Laws.{Is, shows}
pub use denote.Memory.{part_at, hidden_shr, cell_at}
unfoldable pub use denote.Memory.{part_of}
pub use denote.Moves.{moves_from}
pub use denote.Opens.{hide, unhide}
pub use denote.Param.{param, layout, layouts, bounded}
pub use denote.Param.Laws.{Laws, param_laws}
pub use denote.RattleType.{RattleType, Valss, owns, Denots}
pub use denote.RawPtr.{Ptr, block_ptr, InBlock, block_of, count_of, ptr_val, at_block}
pub use denote.Ref.{shr_vals, shr_Tells}
pub use denote.Signature.{plain, types_at}
pub use denote.Steps.{nothing, heard, peeks}
pub use denote.Struct.Owning.{shape}
pub use denote.Struct.Struct.{Struct, within}
pub use denote.Struct.Lending.{Lends-lies, lent_at, lent_at_shr_laws, lent_out, in_block_says, of_Lends}
pub use denote.Triple.Entry.{alive}
pub use denote.Triple.Walked.{Stays, stay_dropped, walk_of, Goes-dropped}
pub use Rattle.core.proofs.mem.Param.{El, lawful, Good, one}
pub use Rattle.core.proofs.slots.Bodies.{after}
pub use Rattle.core.proofs.slots.Lent.{pointer_in, pointer_out}
pub use Rattle.core.specs.Allocator.{array_of}
pub use Rattle.atomic_table.proofs.Walks.{proved, proved_at, leaves}
pub use Rattle.std_alloc.proofs.Pairs.{pair_val, pair_of}
pub use Rattle.std_alloc.proofs.RcSteps.{word-Good, Ptr-Good as ptr-Good}
pub use base.Share.{quarter, three_quarters}
pub use Rattle.piper_cells.specs.Space.{Fits, half, lease, placed}
pub use denote.Shadow.{makes_shadow}
pub use base.Growing.{numbers}
unfoldable pub use base.Growing.{latest}
pub use base.Shift.{Keyless}
pub use Rattle.piper_cells.specs.TokenCell.{Kept, Loan, content, counted, eighth, known, lies, odd, offset, right}
pub use denote.Struct.Tuple.{Tuple}
pub use denote.Param.Shared.{copy_shared}
pub use denote.Struct.Laws.{field_copy}
pub use denote.Param.Send.{IsSend, IsSync, sendable}
pub use Rattle.std_alloc.proofs.SendSync.{seen}
pub use denote.SharingLaws.{contraction}
pub use Rattle.piper_cells.specs.declared.token_cell.Content.{Ghosts}
pub use Rattle.std.proofs.ResultValues.{and_tt}
pub use types.Growing.{latest_agrees}
