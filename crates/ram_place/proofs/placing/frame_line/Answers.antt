use Rattle.std.proofs.Common.{◌≡◌, ℕ, true}
use Rattle.c_typed.specs.Views.{program_of}
use Rattle.live_frames.specs.Memory.{is_taken}
use Rattle.ram_place.specs.Sizes as sizes
use Rattle.ram_place.proofs.Standing.{frame_told, none_uncapped}
use Rattle.ram_place.proofs.placing.frame_line.Goals as goal

pub returns-in-Some : goal.returns-in-Some
returns-in-Some c = frame_told c.args.top (program_of c.args.p.now) c.args.copy (λ (x : ℕ). is_taken c.args.taken.now.marks x ≡ true) c.in_ok-name.name.items c.in-Some.span.address c.in-Some.span.size c.frame_bytes.result c.in_ok-name.ensures c.frame_bytes.ensures c.in-Some.ensures.0 c.in-Some.ensures.1 c.in-Some.ensures.2

pub returns-in-None : goal.returns-in-None
returns-in-None c = (c.in_ok-name.ensures, none_uncapped c.args.top (λ (x : ℕ). is_taken c.args.taken.now.marks x ≡ true) (sizes.frame_bytes (program_of c.args.p.now) c.args.copy.function) c.frame_bytes.result c.frame_bytes.ensures c.in-None.ensures)
