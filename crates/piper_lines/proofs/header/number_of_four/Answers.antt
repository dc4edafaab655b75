use Rattle.std.proofs.Common.{rules, ◌≡◌, ◌<◌, ℕ, get_or}
use Rattle.std.specs.Int.{w32, from_be_bytes, from_le_bytes}
use Rattle.std.proofs.lemmas.Nat.{be_bytes_4, le_bytes_4}
use Rattle.piper_lines.proofs.header.number_of_four.Goals as goal

pub returns-in-BigEndian-clause-spelled : goal.returns-in-BigEndian-clause-spelled
returns-in-BigEndian-clause-spelled c =
    let bytes : (k : ℕ) → get_or c.args.bytes k 0 < 256 = search rules in
    let told : c.from_be_bytes.result ≡ from_be_bytes w32 c.args.bytes = search rules in
    rw c.in-BigEndian.is (be_bytes_4 c.args.bytes _ (search rules) bytes told)

pub returns-in-LittleEndian-clause-spelled : goal.returns-in-LittleEndian-clause-spelled
returns-in-LittleEndian-clause-spelled c =
    let bytes : (k : ℕ) → get_or c.args.bytes k 0 < 256 = search rules in
    let told : c.from_le_bytes.result ≡ from_le_bytes w32 c.args.bytes = search rules in
    rw c.in-LittleEndian.is (le_bytes_4 c.args.bytes _ (search rules) bytes told)
