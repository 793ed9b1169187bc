use Rattle.std.proofs.Common.{◌∙◌, ◌++◌, List, ℕ, Option, Some, ap, sym}
use Rattle.host_io.specs.declared.memory.Current.{Current}
use Rattle.host_io.specs.declared.memory.MemoryHost.{MemoryHost}
use Rattle.host_io.specs.Host.{append, bytes_of, put}
use Rattle.host_io.specs.Memory.{contents_of, open_of}
use Rattle.host_io.proofs.memory.MemoryHostHost.write.Goals as goal

-- the open file is the one that was extended
pub returns-clause-appended : goal.returns-clause-appended
returns-clause-appended c =
    let files = c.begin_call.new.self.files in
    let more = c.args.bytes.now in
    c.in_ok-extend.ensures.extended
    ∙ ap (λ (name : List ℕ). put name (bytes_of (contents_of files) name ++ more) (contents_of files)) c.as_str.ensures.value
    ∙ sym (ap (λ (current : Option Current). append (open_of current) more (contents_of files)) (c.in-Some.is ∙ ap Some c.in-Writing.is))
    ∙ ap (λ (host : MemoryHost). append (open_of host.current) more (contents_of host.files)) c.begin_call.ensures.counts
