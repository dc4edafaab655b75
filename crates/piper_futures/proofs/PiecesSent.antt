-- Items that are sent one after the other.
use Rattle.std.proofs.Common.{◌≡◌, ℕ, ◌-◌, Bool, true, false, List, [], ◌++◌, length, take, drop, Vec, Result, Ok, Err, sym, subst, ap, ◌∙◌, arith, length-append}
use Rattle.std.proofs.Math.Seq.{drop-append_seam, take-append_seam}
use Rattle.std.specs.List.{flat_map}
use Rattle.std.specs.declared.alloc.Global.{Global}
use Rattle.futures.specs.Sent.{UnlessFailed}
use Rattle.futures.specs.declared.task.Poll.{Poll}
use Rattle.futures.specs.declared.task.Poll.TheVariants.{Ready, Pending}
use Rattle.piper_lines.specs.Sends.{Sends}
use Rattle.piper_lines.proofs.Sending.{sends_then, sends_same}

-- more of what was left is written, and the framing stays
pub sent_then : {F : Type 0} (framed : F → Vec ℕ Global → List ℕ) (f1 f2 : F) (items : List (Vec ℕ Global)) (l1 l2 s1 s2 : List ℕ) (saw1 saw2 : Bool) → f2 ≡ f1
    → Sends (flat_map (framed f1) items) l1 [] s1 false saw1 → Sends l1 l2 s1 s2 saw1 saw2 → (saw1 ≡ true → saw2 ≡ true) → Sends (flat_map (framed f2) items) l2 [] s2 false saw2
sent_then framed f1 f2 items l1 l2 s1 s2 saw1 saw2 same first second stays =
    subst (λ f. Sends (flat_map (framed f) items) l2 [] s2 false saw2) (sym same)
    (sends_then (flat_map (framed f1) items) l1 l2 [] s1 s2 false saw1 saw2 first second (λ (seen : false ≡ true). cc) stays)

-- nothing more is written, but the pipe may have been seen closed
pub sent_same : (all left s1 s2 : List ℕ) (saw1 saw2 : Bool) → Sends all left [] s1 false saw1 → (saw1 ≡ true → saw2 ≡ true) → s2 ≡ s1
    → Sends all left [] s2 false saw2
sent_same all left s1 s2 saw1 saw2 first stays same = sends_same all left [] s1 s2 false saw1 saw2 first stays same

-- what was put behind a body, and turned to its front
pub turned : (body header whole shown : List ℕ) (n : ℕ) → whole ≡ body ++ header → shown ≡ header → n ≡ length whole → drop (n - length shown) whole ++ take (n - length shown) whole ≡ header ++ body
turned body header whole shown n is same count =
    let seam : n - length shown ≡ length body = omega (arith, count, ap length is, ap length same, length-append body header) in
    ap (λ k. drop k whole ++ take k whole) seam ∙ ap (λ ws. drop (length body) ws ++ take (length body) ws) is
    ∙ ap (λ ws. ws ++ take (length body) (body ++ header)) (drop-append_seam body header) ∙ ap (λ ws. header ++ ws) (take-append_seam body header)

-- what holds in any case holds unless the poll failed
pub unless_failed : {T E : Type 0} (r : Poll (Result T E)) (P : Type 0) → P → UnlessFailed r P
unless_failed (Ready (Ok x)) P holds = holds
unless_failed (Ready (Err e)) P holds = tt
unless_failed Pending P holds = holds
