use Rattle.std.proofs.Common.{refl}
use Rattle.pic_map.specs.MapView.{content_of}
use Rattle.picc_cli.proofs.EventNames.{next_shown}
use Rattle.picc_cli.proofs.TracedRun.{step_broken, step_silent, step_told}
use Rattle.picc_cli.proofs.running.take_step.Goals as goal

pub print_event-requires : goal.print_event-requires
print_event-requires g c =
    let behind = c.requires.behind in
    next_shown behind.setting (content_of c.args.map.now) c.requires.number _ c.in-Went-Some.event c.step.new.self behind.at.can.given behind.objects c.in-Went-Some.field-0-is
    (c.in-Went-Some.ensures.follows behind.setting (content_of c.args.map.now) c.requires.number behind.outside c.requires.few behind.at)

pub returns-in-Went-None-clause-next : goal.returns-in-Went-None-clause-next
returns-in-Went-None-clause-next g c = λ s n outside few is.
    step_silent s (content_of c.args.map.now) n _ c.step.new.self _ _ c.in-Went-None.field-0-is (c.in-Went-None.ensures.follows s (content_of c.args.map.now) n outside few is) refl

pub returns-in-Ok-clause-next : goal.returns-in-Ok-clause-next
returns-in-Ok-clause-next g c = λ s n outside few is.
    step_told s (content_of c.args.map.now) n _ c.in-Went-Some.event c.step.new.self _ _ c.in-Went-Some.field-0-is
    (c.in-Went-Some.ensures.follows s (content_of c.args.map.now) n outside few is) c.in-Ok.ensures.all.1

pub returns-in-Err-Failed-clause-next : goal.returns-in-Err-Failed-clause-next
returns-in-Err-Failed-clause-next g c = λ s n outside few is.
    step_broken s (content_of c.args.map.now) n _ c.in-Went-Some.event c.step.new.self _ _ c.in-Went-Some.field-0-is
    (c.in-Went-Some.ensures.follows s (content_of c.args.map.now) n outside few is) c.in-Err-Failed.ensures.prefix

pub returns-in-Err-NoMemory-clause-next : goal.returns-in-Err-NoMemory-clause-next
returns-in-Err-NoMemory-clause-next g c = λ s n outside few is.
    step_broken s (content_of c.args.map.now) n _ c.in-Went-Some.event c.step.new.self _ _ c.in-Went-Some.field-0-is
    (c.in-Went-Some.ensures.follows s (content_of c.args.map.now) n outside few is) c.in-Err-NoMemory.ensures.prefix

pub returns-in-Undefined-clause-next : goal.returns-in-Undefined-clause-next
returns-in-Undefined-clause-next g c = λ s n outside few is. (c.in-Undefined.ensures.follows s (content_of c.args.map.now) n outside few is, refl)

pub returns-in-Idle-clause-next : goal.returns-in-Idle-clause-next
returns-in-Idle-clause-next g c = λ s n outside few is. ((c.in-Idle.ensures.follows s (content_of c.args.map.now) n outside few is).0, refl)
