use Rattle.std.proofs.Common.{◌≡◌, ◌+◌, ◌-◌, ◌≤◌, ◌∙◌, arith, length, take, drop, length-drop, take-take, subst, ap}
use Rattle.std.proofs.lemmas.List.{length-take-le}
use Rattle.piper_duplex.specs.Client.{IsOfLine}
use Rattle.piper_duplex.proofs.LinesOut.{fills_line}
use Rattle.piper_duplex.proofs.Talking.{sends_part}
use Rattle.piper_duplex.proofs.engine.line.Line.send.Goals as goal

pub returns-in_err-send-clause-sends : goal.returns-in_err-send-clause-sends
returns-in_err-send-clause-sends g c =
    let end : c.args.at.now + c.first-piece.result.count ≤ length c.args.bytes.now = omega (arith, c.first-piece.ensures.bound, c.requires.some, length-drop c.args.at.now c.args.bytes.now) in
    let size = length-take-le (c.args.at.now + c.first-piece.result.count) c.args.bytes.now end in
    sends_part _ _ _ (c.args.at.now + c.first-piece.result.count) _ _ _ _ (omega (arith, size)) c.send.ensures.within c.send.ensures.sends

pub returns-clause-sends : goal.returns-clause-sends
returns-clause-sends g c =
    let end : c.args.at.now + c.first-piece.result.count ≤ length c.args.bytes.now = omega (arith, c.first-piece.ensures.bound, c.requires.some, length-drop c.args.at.now c.args.bytes.now) in
    let size = length-take-le (c.args.at.now + c.first-piece.result.count) c.args.bytes.now end in
    sends_part _ _ _ (c.args.at.now + c.first-piece.result.count) _ _ _ _ (omega (arith, size)) c.send.ensures.within c.send.ensures.sends

pub returns-clause-line : goal.returns-clause-line
returns-clause-line g c =
    let end : c.args.at.now + c.first-piece.result.count ≤ length c.args.bytes.now = omega (arith, c.first-piece.ensures.bound, c.requires.some, length-drop c.args.at.now c.args.bytes.now) in
    let size = length-take-le (c.args.at.now + c.first-piece.result.count) c.args.bytes.now end in
    let moved : c.first-piece.result.count ≡ c.send.new.count - c.args.at.now = omega (arith, c.in_ok-send.ensures.whole, size) in
    let room = c.args.self.now.room c.requires.printed in
    let rest = drop c.args.at.now c.args.bytes.now in
    let within : c.first-piece.result.count ≤ length c.args.bytes.now - c.args.at.now = omega (arith, end) in
    subst (λ xs. IsOfLine c.first-piece.result.is_last (c.args.self.now.sent + c.first-piece.result.count ≡ 65_536) xs)
    (take-take c.first-piece.result.count (length c.args.bytes.now - c.args.at.now) rest within ∙ ap (λ n. take n rest) moved)
    (fills_line _ _ _ _ (λ full. omega (arith, full, room)) c.first-piece.ensures.line)
