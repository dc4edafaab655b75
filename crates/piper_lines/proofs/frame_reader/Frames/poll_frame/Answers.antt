use Rattle.std.proofs.Common.{rules, ◌≡◌, length, true, false, Ok, ap, ◌∙◌, arith}
use Rattle.futures.specs.declared.task.Poll.TheVariants.{Ready}
use Rattle.piper_lines.specs.Header.{header_size, length_bytes, encoded_length}
use Rattle.piper_lines.specs.FrameReader.{kept_of}
use Rattle.piper_lines.proofs.Framing.{on_end, holding_header, holding_body, keeping_none, keeping_header, keeping_body, keeping_frame}
use Rattle.piper_lines.proofs.frame_reader.Frames.poll_frame.Goals as goal

pub returns-in-Pending-clause-moved : goal.returns-in-Pending-clause-moved
returns-in-Pending-clause-moved g c =
    keeping_none _ _ (kept_of c.args.self.now) _ _ c.pass_over.ensures.passed

pub returns-in-Ready-Err-clause-moved : goal.returns-in-Ready-Err-clause-moved
returns-in-Ready-Err-clause-moved g c =
    keeping_none _ _ (kept_of c.args.self.now) _ _ c.pass_over.ensures.passed

pub returns-in-Ready-Ok-false-clause-moved : goal.returns-in-Ready-Ok-false-clause-moved
returns-in-Ready-Ok-false-clause-moved g c =
    keeping_none _ _ (kept_of c.args.self.now) _ _ c.pass_over.ensures.passed

pub returns-in-Pending-fill_up-clause-moved : goal.returns-in-Pending-fill_up-clause-moved
returns-in-Pending-fill_up-clause-moved g c =
    let passed : c.pass_over.result ≡ Ready (Ok true) = cc in
    keeping_header (header_size c.args.self.now.format) _ _ _ c.args.self.now.header.items c.fill_up.new.gathered.items c.args.self.now.body.items _ _ c.pass_over.ensures.passed c.fill_up.ensures.grown
    c.args.self.now.header_first (omega (arith, c.fill_up.ensures.within.0, c.size-header_size.ensures.size)) (c.pass_over.ensures.done passed)

pub returns-in-Ready-Err-fill_up-clause-moved : goal.returns-in-Ready-Err-fill_up-clause-moved
returns-in-Ready-Err-fill_up-clause-moved g c =
    let passed : c.pass_over.result ≡ Ready (Ok true) = cc in
    keeping_header (header_size c.args.self.now.format) _ _ _ c.args.self.now.header.items c.fill_up.new.gathered.items c.args.self.now.body.items _ _ c.pass_over.ensures.passed c.fill_up.ensures.grown
    c.args.self.now.header_first (omega (arith, c.fill_up.ensures.within.0, c.size-header_size.ensures.size)) (c.pass_over.ensures.done passed)

pub returns-then-size-limit-clause-moved : goal.returns-then-size-limit-clause-moved
returns-then-size-limit-clause-moved g c =
    let passed : c.pass_over.result ≡ Ready (Ok true) = cc in
    keeping_header (header_size c.args.self.now.format) _ _ _ c.args.self.now.header.items c.fill_up.new.gathered.items c.args.self.now.body.items _ _ c.pass_over.ensures.passed c.fill_up.ensures.grown
    c.args.self.now.header_first (omega (arith, c.fill_up.ensures.within.0, c.size-header_size.ensures.size)) (c.pass_over.ensures.done passed)

pub returns-in-Pending-fill_up-2-clause-moved : goal.returns-in-Pending-fill_up-2-clause-moved
returns-in-Pending-fill_up-2-clause-moved g c =
    let passed : c.pass_over.result ≡ Ready (Ok true) = cc in
    keeping_body (header_size c.args.self.now.format) _ _ _ _ c.args.self.now.header.items c.fill_up.new.gathered.items c.args.self.now.body.items c.fill_up-2.new.gathered.items _ _
    c.pass_over.ensures.passed c.fill_up.ensures.grown c.fill_up-2.ensures.grown c.args.self.now.header_first (omega (arith, c.fill_up.ensures.within.0, c.size-header_size.ensures.size)) (c.pass_over.ensures.done passed)

pub returns-in-Ready-Err-fill_up-2-clause-moved : goal.returns-in-Ready-Err-fill_up-2-clause-moved
returns-in-Ready-Err-fill_up-2-clause-moved g c =
    let passed : c.pass_over.result ≡ Ready (Ok true) = cc in
    keeping_body (header_size c.args.self.now.format) _ _ _ _ c.args.self.now.header.items c.fill_up.new.gathered.items c.args.self.now.body.items c.fill_up-2.new.gathered.items _ _
    c.pass_over.ensures.passed c.fill_up.ensures.grown c.fill_up-2.ensures.grown c.args.self.now.header_first (omega (arith, c.fill_up.ensures.within.0, c.size-header_size.ensures.size)) (c.pass_over.ensures.done passed)

pub returns-in-Ready-Ok-false-fill_up-2-clause-moved : goal.returns-in-Ready-Ok-false-fill_up-2-clause-moved
returns-in-Ready-Ok-false-fill_up-2-clause-moved g c =
    let passed : c.pass_over.result ≡ Ready (Ok true) = cc in
    keeping_body (header_size c.args.self.now.format) _ _ _ _ c.args.self.now.header.items c.fill_up.new.gathered.items c.args.self.now.body.items c.fill_up-2.new.gathered.items _ _
    c.pass_over.ensures.passed c.fill_up.ensures.grown c.fill_up-2.ensures.grown c.args.self.now.header_first (omega (arith, c.fill_up.ensures.within.0, c.size-header_size.ensures.size)) (c.pass_over.ensures.done passed)

pub returns-in-Ready-Ok-true-fill_up-2-clause-moved : goal.returns-in-Ready-Ok-true-fill_up-2-clause-moved
returns-in-Ready-Ok-true-fill_up-2-clause-moved g c =
    let passed : c.pass_over.result ≡ Ready (Ok true) = cc in
    let is_full : c.fill_up-2.result ≡ Ready (Ok true) = cc in
    let body = keeping_body (header_size c.args.self.now.format) _ _ _ _ c.args.self.now.header.items c.fill_up.new.gathered.items c.args.self.now.body.items c.fill_up-2.new.gathered.items _ _
    c.pass_over.ensures.passed c.fill_up.ensures.grown c.fill_up-2.ensures.grown c.args.self.now.header_first (omega (arith, c.fill_up.ensures.within.0, c.size-header_size.ensures.size)) (c.pass_over.ensures.done passed) in
    let spelled : length_bytes c.args.self.now.format (length c.fill_up-2.new.gathered.items) ≡ c.fill_up.new.gathered.items =
    ap (λ n. length_bytes c.args.self.now.format n) (c.fill_up-2.ensures.within.1 is_full) ∙ c.told-size.ensures.spelled ∙ c.deref-2.ensures.value in
    keeping_frame c.args.self.now.format _ _ c.fill_up.new.gathered.items c.fill_up-2.new.gathered.items c.swap.new.x.items c.clear-in-Ready-Ok-true-fill_up-2.new.self.items c.swap.new.y.items _ _ _ body spelled
    (search rules) c.clear-in-Ready-Ok-true-fill_up-2.ensures.items (search rules)

pub invariant_of-self : goal.invariant_of-self
invariant_of-self g c =
    let frames = c.args.self.now in
    record { header_first = frames.header_first; fits = frames.fits; short = frames.short; skips_first = λ some. frames.skips_first (omega (arith, c.pass_over.ensures.passed.2)) }

pub invariant_of-self-in-Ready-Ok-false : goal.invariant_of-self-in-Ready-Ok-false
invariant_of-self-in-Ready-Ok-false g c =
    let frames = c.args.self.now in
    record { header_first = frames.header_first; fits = frames.fits; short = frames.short; skips_first = λ some. frames.skips_first (omega (arith, c.pass_over.ensures.passed.2)) }

pub invariant_of-self-in-Pending-fill_up : goal.invariant_of-self-in-Pending-fill_up
invariant_of-self-in-Pending-fill_up g c =
    let passed : c.pass_over.result ≡ Ready (Ok true) = cc in
    let frames = c.args.self.now in
    holding_header frames.format _ _ frames.header.items c.fill_up.new.gathered.items frames.body.items _ c.fill_up.ensures.grown frames.header_first (omega (arith, c.fill_up.ensures.within.0, c.size-header_size.ensures.size)) frames.fits (c.pass_over.ensures.done passed)

pub invariant_of-self-in-Ready-Ok-false-fill_up : goal.invariant_of-self-in-Ready-Ok-false-fill_up
invariant_of-self-in-Ready-Ok-false-fill_up g c =
    let passed : c.pass_over.result ≡ Ready (Ok true) = cc in
    let frames = c.args.self.now in
    holding_header frames.format _ _ frames.header.items c.fill_up.new.gathered.items frames.body.items _ c.fill_up.ensures.grown frames.header_first (omega (arith, c.fill_up.ensures.within.0, c.size-header_size.ensures.size)) frames.fits (c.pass_over.ensures.done passed)

pub invariant_of-self-then-size-limit : goal.invariant_of-self-then-size-limit
invariant_of-self-then-size-limit g c =
    let passed : c.pass_over.result ≡ Ready (Ok true) = cc in
    let frames = c.args.self.now in
    holding_header frames.format _ _ frames.header.items c.fill_up.new.gathered.items frames.body.items _ c.fill_up.ensures.grown frames.header_first (omega (arith, c.fill_up.ensures.within.0, c.size-header_size.ensures.size)) frames.fits (c.pass_over.ensures.done passed)

pub invariant_of-self-in-Pending-fill_up-2 : goal.invariant_of-self-in-Pending-fill_up-2
invariant_of-self-in-Pending-fill_up-2 g c =
    let passed : c.pass_over.result ≡ Ready (Ok true) = cc in
    let is_whole : c.fill_up.result ≡ Ready (Ok true) = cc in
    holding_body c.args.self.now.format c.fill_up.new.gathered.items c.fill_up-2.new.gathered.items _ _ (c.fill_up.ensures.within.1 is_whole ∙ c.size-header_size.ensures.size)
    (c.told-size.ensures.told ∙ ap (λ ws. encoded_length c.args.self.now.format ws) c.deref-2.ensures.value) c.fill_up-2.ensures.within.0 (c.pass_over.ensures.done passed)

pub invariant_of-self-in-Ready-Ok-false-fill_up-2 : goal.invariant_of-self-in-Ready-Ok-false-fill_up-2
invariant_of-self-in-Ready-Ok-false-fill_up-2 g c =
    let passed : c.pass_over.result ≡ Ready (Ok true) = cc in
    let is_whole : c.fill_up.result ≡ Ready (Ok true) = cc in
    holding_body c.args.self.now.format c.fill_up.new.gathered.items c.fill_up-2.new.gathered.items _ _ (c.fill_up.ensures.within.1 is_whole ∙ c.size-header_size.ensures.size)
    (c.told-size.ensures.told ∙ ap (λ ws. encoded_length c.args.self.now.format ws) c.deref-2.ensures.value) c.fill_up-2.ensures.within.0 (c.pass_over.ensures.done passed)

pub returns-in-Ready-Ok-false-fill_up-clause-ended : goal.returns-in-Ready-Ok-false-fill_up-clause-ended
returns-in-Ready-Ok-false-fill_up-clause-ended g c =
    let ended : c.fill_up.result ≡ Ready (Ok false) = cc in
    on_end _ _ ((c.fill_up.ensures.ended ended).2)
