use Rattle.std.proofs.Common.{rules, ◌≡◌, ◌∙◌, ◌++◌, length, sym, ap, vec_len}
use Rattle.piper_lines.specs.Header.{length_bytes}
use Rattle.piper_futures.proofs.PiecesSent.{turned}
use Rattle.piper_futures.proofs.framing.FrameHeaderFraming.frame.Goals as goal

pub returns-clause-framed : goal.returns-clause-framed
returns-clause-framed c =
    let body = c.args.item.items in
    let header : c.as_slice.result.now ≡ length_bytes c.args.self.now (length body) = search rules in
    let behind : c.extend_from_slice.new.self.items ≡ body ++ c.as_slice.result.now = search rules in
    let shown : c.as_slice-2.result.now ≡ c.as_slice.result.now = c.as_slice-2.ensures ∙ sym c.as_slice.ensures in
    let count : vec_len c.extend_from_slice.new.self ≡ length c.extend_from_slice.new.self.items = search rules in
    c.rotate_right.ensures.items ∙ turned body c.as_slice.result.now c.extend_from_slice.new.self.items c.as_slice-2.result.now (vec_len c.extend_from_slice.new.self) behind shown count ∙ ap (λ ws. ws ++ body) header
