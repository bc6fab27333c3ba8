use Rattle.std.proofs.Common.{◌≡◌, ◌+◌, ◌≤◌, ◌++◌, drop}
use Rattle.std.specs.String.{string_bytes}
use Rattle.mh_tell_chrome.specs.{Deeds.{course_after_all, deeds_events}, Auxiliary.total, TraceEvents.next_texts}
use Rattle.mh_tell_chrome.proofs.quantum.push_deeds.Given as goal

abbrev pub invariant-loop-deed : goal.invariant-loop-deed
invariant-loop-deed l = record {
  text : string_bytes l.text ++ next_texts (deeds_events l.told l.course (drop l.deed-index l.deeds)) ≡ string_bytes l.fn.text ++ next_texts (deeds_events l.told l.initial.course l.deeds);
  course : course_after_all l.told l.course (drop l.deed-index l.deeds) ≡ course_after_all l.told l.initial.course l.deeds;
  time : l.course.time + l.course.left ≡ l.initial.course.time + l.initial.course.left;
  few : total l.course.counts ≤ total l.initial.course.counts + l.deed-index;
}
