-- What is compiled for the second chip, from what is known of its front and of what the first chip would get.
use Rattle.std.proofs.Common.{◌≡◌, ℕ, ◌≤◌, Bool, List, map, sum, Ok, Err, Result, IfOk, sym, ap, ◌∙◌, subst, arith}
use Rattle.c_typed.specs.Trees.{Program}
use Rattle.c_typed.specs.Views.{program_of}
use Rattle.call_graph.specs.Copies.{AreCopies}
use Rattle.call_graph.specs.declared.types.FnCopy.{FnCopy}
use Rattle.chip_84a.specs.Port.{IsPorted}
use Rattle.headline.specs.Keeps.{AllStayWithin}
use Rattle.headline.specs.SourceOf.{source_of, IsFaithfulAs, IsFaithfulTo}
use Rattle.headline_84a.proofs.Second as law
use Rattle.headline_84a.specs.OnSecondChip.{pic16f84a}
use Rattle.headline_84a.specs.Second.{AreLowLines, HasAll}
use Rattle.named_registers.specs.Registers.{names_register}
use Rattle.pic_map.specs.MapContent.{ObjectLine, FrameLine, MapContent}
use Rattle.pic_map.specs.MapView.{content_of, object_of, frame_of}
use Rattle.program_code.specs.Stated.{sizes, end_of_code}
use Rattle.program_code.specs.Translated.{IsTranslated}
use Rattle.picc_core.specs.Accepted.{IsCodeOrder}
use Rattle.picc_core.specs.Answers.{TellsErrorBy}
use Rattle.picc_core.specs.Compiled.{IsCompiledBy, IsCompiledTo}
use Rattle.picc_core.specs.Decided.{IsAcceptedText}
use Rattle.picc_core.specs.Kept.{IsKept}
use Rattle.picc_core.specs.Limits.{second_chip, IsFirstRefusalWithin}
use Rattle.picc_core.specs.SecondChip.{second, AreAcceptedSecond, TellsSecond, of_compile}
use Rattle.picc_core.specs.SecondMade.{IsFrontSecond, IsPortedTo, IsTranslatedSecond}
use Rattle.picc_core.specs.declared.for_second.Compile84Error.{Compile84Error}
use Rattle.picc_core.specs.declared.known.Built.{Built}
use Rattle.picc_core.specs.declared.known.Front.{Front}
use Rattle.picc_core.specs.declared.refusal.CompileError.{CompileError}
use Rattle.picc_core.specs.declared.refusal.CompileError.TheVariants.{NoMemory, Refused}
use Rattle.picc_core.proofs.EarlyEnds.{early_end}
use Rattle.picc_core.proofs.LowLines.{low_lines}
use Rattle.picc_core.proofs.OnlyBlocks.{one_sum}
use Rattle.picc_core.proofs.OnlyCopies.{one_copies}
use Rattle.picc_core.proofs.Keeping.{translations_kept}

-- ---- words
-- all blocks of an accepted program have few words, in any order of code
few_words : (p : Program) (copies others order : List FnCopy) → AreAcceptedSecond p copies → AreCopies p copies → AreCopies p others → IsCodeOrder others order → sum (sizes p order) ≤ 1024
few_words p copies others order accepted known also ordered =
    let within = accepted.within.within in
    let moved : IsCodeOrder copies order = subst (λ (l : List FnCopy). IsCodeOrder l order) (one_copies p others copies also known) ordered in
    let same = one_sum p copies within.order order within.in_order moved in
    let few = within.words in
    omega (arith, same, few)

-- ---- the headline
-- of which copies a source is makes no difference to its runs
stays_for : (p : Program) (copies others : List FnCopy) (content : MapContent) (named : ℕ → Bool) (end : ℕ) (image : List ℕ) → AllStayWithin (source_of p copies content) content named end image
    → AllStayWithin (source_of p others content) content named end image
stays_for p copies others content named end image within start inputs arrivals is small =
    let x = within start inputs arrivals is small in record { begins = x.begins; stands = x.stands }

second_faithful : (p : Program) (copies : List FnCopy) (content : MapContent) (image ported : List ℕ) → AreAcceptedSecond p copies → AreCopies p copies → AreLowLines content.objects content.frames → IsPorted image ported
    → IsFaithfulTo p content image → IsKept p content image → IsFaithfulAs pic16f84a source_of p content ported
second_faithful p copies content image ported accepted known low rows faithful kept =
    let end = end_of_code 0 (sizes p kept.paged.order) in
    let few = few_words p copies kept.copies kept.paged.order accepted known kept.known (record { same = kept.paged.same; sorted = kept.paged.sorted }) in
    let has : HasAll content (names_register p) end = record { low = low; registers = accepted.registers; words = early_end (sizes p kept.paged.order) few } in
    record {
      copies = faithful.copies;
      faithful =
          law.second (source_of p faithful.copies content) content (names_register p) end image ported has rows
          (stays_for p kept.copies faithful.copies content (names_register p) end image kept.all) faithful.faithful;
    }

-- ---- all that is known
-- what is accepted for the second chip is accepted
pub front_taken : (text : List ℕ) (f : Front) → IsFrontSecond text f → IsAcceptedText text
front_taken text f is = record { program = program_of f.typed; typed = is.typed; copies = f.copies.list.items; accepted = is.accepted.within.accepted }

module _ (text : List ℕ) (f : Front) (b : Built) (front : IsFrontSecond text f) (is : IsCompiledTo text b) (typed : b.typed ≡ f.typed) (objects : b.map.objects ≡ f.placed.objects) (frames : b.map.frames ≡ f.placed.frames)
    (words : b.words ≡ f.words) (made : IsTranslated (program_of b.typed) b.image (content_of b.map)) where
  of : program_of b.typed ≡ program_of f.typed
  of = ap program_of typed

  accepted : AreAcceptedSecond (program_of b.typed) f.copies.list.items
  accepted = subst (λ (p : Program). AreAcceptedSecond p f.copies.list.items) (sym of) front.accepted

  known : AreCopies (program_of b.typed) f.copies.list.items
  known = subst (λ (p : Program). AreCopies p f.copies.list.items) (sym of) front.list

  low : AreLowLines (map object_of b.map.objects.items) (map frame_of b.map.frames.items)
  low =
      let lines = low_lines (program_of f.typed) f.copies.list.items (map object_of f.placed.objects.items) (map frame_of f.placed.frames.items) front.below in
      subst (λ (l : List ObjectLine). AreLowLines l (map frame_of b.map.frames.items)) (sym (ap (λ v. map object_of v.items) objects))
      (subst (λ (l : List FrameLine). AreLowLines (map object_of f.placed.objects.items) l) (sym (ap (λ v. map frame_of v.items) frames)) lines)

  few : b.words ≤ 1024
  few =
      let blocks = front.blocks in
      let sum = blocks.sum in
      let low = few_words (program_of f.typed) f.copies.list.items f.copies.list.items blocks.order front.accepted front.list front.list (record { same = blocks.same; sorted = blocks.sorted }) in
      omega (arith, words, sum, low)

  compiled : (image : List ℕ) → IsPorted b.image image → IsCompiledBy second text (record b { image = image })
  compiled image rows = record {
    tree = is.tree;
    typed = is.typed;
    taken = record { program = program_of b.typed; typed = is.typed; copies = f.copies.list.items; accepted = accepted };
    roots = is.roots;
    recursion = is.recursion;
    depth = is.depth;
    lines = record { placed = is.lines; low = low };
    written = is.written;
    words = record { stated = is.words; few = few };
    few = is.few;
    ram = is.ram;
    faithful = second_faithful (program_of b.typed) f.copies.list.items (content_of b.map) b.image image accepted known low rows is.faithful (translations_kept (program_of b.typed) b.image (content_of b.map) made);
  }

  pub compiled_second : (s : Built) → IsPortedTo b s → IsCompiledBy second text s
  compiled_second s port = subst (IsCompiledBy second text) (sym port.same) (compiled s.image port.rows)

-- what the passes made is behind it
pub translated_second : (b s : Built) → IsTranslated (program_of b.typed) b.image (content_of b.map) → IsPortedTo b s → IsTranslatedSecond (program_of s.typed) s.image (content_of s.map)
translated_second b s made port =
    subst (λ (t : Built). IsTranslatedSecond (program_of t.typed) t.image (content_of t.map)) (sym port.same)
    (record { first = b.image; translated = made; rows = port.rows })

-- what is known of what a text is compiled to has its parts
pub part_of : (text : List ℕ) (P : Built → Type 0) (r : Result Built Compile84Error) → IfOk r (IsCompiledBy second text) → ((b : Built) → IsCompiledBy second text b → P b) → IfOk r P
part_of text P (Ok b) is part = part b is
part_of text P (Err e) is part = tt

-- ---- refusals
pub second_told : (text : List ℕ) (e : CompileError) → TellsErrorBy (IsFirstRefusalWithin second_chip) text e → TellsSecond text (of_compile e)
second_told text NoMemory is = tt
second_told text (Refused refusal) is = is
