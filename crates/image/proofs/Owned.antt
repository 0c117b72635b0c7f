-- Whoever owns a table knows that its numbers fit and that its arrays have their lengths.
use Prim.Native.Nat.{ℕ}
use mathlib.Core.Path.{◌≡◌}
use mathlib.Core.List.{List, [], ◌∷◌}
use native.Mathlib.Omega.{arith}
use lib.ListN.{length}
use mir.Val.{Val}
use denote.Shadow.{shadow}
use denote.Laws.{Is}
use denote.Array.{each, Array}
use denote.RattleType.{RattleType}
use denote.Struct.Declared.{row}
use denote.Struct.Laws.{owed}
use denote.Enum.Declared.{row as Enum-Row}
use denote.Enum.Laws.{owed as enum-owed}
use Rattle.records.specs.contracts.TaskNo.{the_type as task-no-type, the_row as task-no-row}
use Rattle.records.proofs.TaskNo.TheLaws.{the_laws as task-no-laws}
use Rattle.executive.specs.contracts.Millis.{the_type as millis-type, the_row as millis-row}
use Rattle.executive.proofs.Millis.TheLaws.{the_laws as millis-laws}
use Rattle.executive.specs.contracts.State.{the_type as state-type}
use Rattle.executive.proofs.State.TheLaws.{the_laws as state-laws}
use Rattle.executive.specs.contracts.Task.{the_type as task-type, the_row as task-row}
use Rattle.executive.proofs.Task.TheLaws.{the_laws as task-laws}
use Rattle.executive.specs.contracts.Request.{the_type as request-type, the_row as request-row}
use Rattle.executive.proofs.Request.TheLaws.{the_laws as request-laws}
use Rattle.executive.specs.contracts.Sub.{the_type as sub-type, the_row as sub-row}
use Rattle.executive.proofs.Sub.TheLaws.{the_laws as sub-laws}
use Rattle.executive.specs.contracts.Message.{the_type as message-type, the_row as message-row}
use Rattle.executive.proofs.Message.TheLaws.{the_laws as message-laws}
use Rattle.executive.specs.contracts.Mail.{the_type as mail-type, the_row as mail-row}
use Rattle.executive.proofs.Mail.TheLaws.{the_laws as mail-laws}
use Rattle.executive.specs.contracts.Rest.{the_type as rest-type}
use Rattle.executive.proofs.Rest.TheLaws.{the_laws as rest-laws}
use Rattle.executive.specs.contracts.Table.{the_type as table-type}
use Rattle.executive.proofs.Table.TheLaws.{the_laws as table-laws}
use Rattle.mender.specs.contracts.Mended.{the_type as mended-type}
use Rattle.mender.proofs.Mended.TheLaws.{the_laws as mended-laws}
use Rattle.records.specs.declared.TaskNo.{TaskNo}
use Rattle.records.specs.Numbers.{Fits}
use Rattle.executive.specs.declared.Millis.{Millis}
use Rattle.executive.specs.declared.Mode.TheVariants.{Any, All}
use Rattle.executive.specs.declared.State.{State}
use Rattle.executive.specs.declared.State.TheVariants.{Dormant, Ready, Paused, Due, Flags, AwaitStart, AwaitEnd, AwaitSub, AwaitMessage}
use Rattle.executive.specs.declared.Task.{Task}
use Rattle.executive.specs.declared.Request.{Request}
use Rattle.executive.specs.declared.Sub.{Sub}
use Rattle.executive.specs.declared.Message.{Message}
use Rattle.executive.specs.declared.Mail.{Mail}
use Rattle.executive.specs.declared.Table.{Table}
use Rattle.mender.specs.declared.Mended.{Mended}
use Rattle.image.specs.Blocks.{Each}
use Rattle.image.specs.Image.{task_widths, place_widths, alarm_widths, request_widths, awaited_widths, task_numbers, place_numbers, alarm_numbers, request_numbers, awaited_numbers, FitsSub, FitsTable}
use Rattle.image.specs.Image.{message_widths, mail_widths, message_numbers, mail_numbers}
use Rattle.image.proofs.Trips.{FitsState, line-sizes}

state-owned : (x : State) (vs : List Val) → Is (Enum-Row state-type) x vs → FitsState x
state-owned Dormant vs q = (omega arith, (omega arith, (omega arith, (omega arith, tt))))
state-owned Ready vs q = (omega arith, (omega arith, (omega arith, (omega arith, tt))))
state-owned (Paused at) vs q = let f = enum-owed state-type state-laws (Paused at) vs q in (omega arith, (omega arith, (omega arith, (omega arith, tt))))
state-owned (Due at) vs q = let f = enum-owed state-type state-laws (Due at) vs q in (omega arith, (omega arith, (omega arith, (omega arith, tt))))
state-owned (Flags Any mask) vs q = let f = enum-owed state-type state-laws (Flags Any mask) vs q in (omega arith, (omega arith, (omega arith, (omega arith, tt))))
state-owned (Flags All mask) vs q = let f = enum-owed state-type state-laws (Flags All mask) vs q in (omega arith, (omega arith, (omega arith, (omega arith, tt))))
state-owned AwaitStart vs q = (omega arith, (omega arith, (omega arith, (omega arith, tt))))
state-owned AwaitEnd vs q = (omega arith, (omega arith, (omega arith, (omega arith, tt))))
state-owned (AwaitSub m) vs q = let f = enum-owed state-type state-laws (AwaitSub m) vs q in (omega arith, (omega arith, (omega arith, (omega arith, tt))))
state-owned (AwaitMessage k) vs q = let f = enum-owed state-type state-laws (AwaitMessage k) vs q in (omega arith, (omega arith, (omega arith, (omega arith, tt))))

task-owned : (e : Task) (vs : List Val) → Is (row task-type) e vs → Fits task_widths (task_numbers e)
task-owned e vs q =
    let f = owed task-type task-laws e vs q in
    let s = state-owned e.state _ f.1.1.1.1.0 in
    (omega arith, (s.0, (s.1.0, (s.1.1.0, (omega arith, (omega arith, (omega arith, (omega arith, tt))))))))

awaited-owned : (e : Task) (vs : List Val) → Is (row task-type) e vs → Fits awaited_widths (awaited_numbers e)
awaited-owned e vs q = let f = owed task-type task-laws e vs q in (state-owned e.state _ f.1.1.1.1.0).1.1.1

request_owned : (r : Request) (vs : List Val) → Is (row request-type) r vs → Fits request_widths (request_numbers r)
request_owned r vs q = let f = owed request-type request-laws r vs q in (omega arith, (omega arith, (omega arith, (omega arith, (omega arith, tt)))))

message_owned : (m : Message) (vs : List Val) → Is (row message-type) m vs → Fits message_widths (message_numbers m)
message_owned m vs q = let f = owed message-type message-laws m vs q in (omega arith, (omega arith, (omega arith, (omega arith, tt))))

mail-owned : (x : Mail) (vs : List Val) → Is (row mail-type) x vs → Fits mail_widths (mail_numbers x)
mail-owned x vs q = let f = owed mail-type mail-laws x vs q in (omega arith, (omega arith, tt))

place-owned : (k : TaskNo) (vs : List Val) → Is (row task-no-type) k vs → Fits place_widths (place_numbers k)
place-owned k vs q = let f = owed task-no-type task-no-laws k vs q in (omega arith, tt)

alarm-owned : (a : Millis) (vs : List Val) → Is (row millis-type) a vs → Fits alarm_widths (alarm_numbers a)
alarm-owned a vs q = let f = owed millis-type millis-laws a vs q in (omega arith, tt)

-- an array's elements, each with what its owner knows of it
module _ (R : RattleType) (P : R.Denot → Type 0) (known : (x : R.Denot) (vs : List Val) → Is R x vs → P x) where
  each_owned : (xs : List R.Denot) (us : List Val) → shadow (each R.Denot R.own_val xs us) → Each P xs
  each_owned [] us s = tt
  each_owned (x ∷ xs) [] s = absurd s
  each_owned (x ∷ xs) (u ∷ us) s = (known x (u ∷ []) s.0, each_owned xs us s.1)

  pub array_owned : (n : ℕ) (xs : List R.Denot) (vs : List Val) → Is (Array R n) xs vs → (length xs ≡ n) × Each P xs
  array_owned n xs vs q = (q.1.0.1, each_owned xs q.0 q.1.1)

sub-owned : (x : Sub) (vs : List Val) → Is (row sub-type) x vs → FitsSub x
sub-owned x vs q =
    let f = owed sub-type sub-laws x vs q in
    let ks = array_owned task-no-row (λ k. Fits place_widths (place_numbers k)) place-owned 16 x.line _ f.1.0 in
    record { numbers = (omega arith, (omega arith, tt)); size = ks.0; line = ks.1 }

pub table-owned : (t : Table) (vs : List Val) → Is (row table-type) t vs → FitsTable t
table-owned t vs q =
    let f = owed table-type table-laws t vs q in
    let g = owed rest-type rest-laws t.rest _ f.1.1.1.1.0 in
    let ts = array_owned task-row (λ e. Fits task_widths (task_numbers e)) task-owned 16 t.tasks _ f.0 in
    let qs = array_owned task-no-row (λ k. Fits place_widths (place_numbers k)) place-owned 16 t.queue _ f.1.0 in
    let al = array_owned millis-row (λ a. Fits alarm_widths (alarm_numbers a)) alarm-owned 32 t.rest.alarms _ g.1.1.1.1.0 in
    let rs = array_owned request-row (λ r. Fits request_widths (request_numbers r)) request_owned 32 t.rest.pool _ g.1.1.1.1.1.0 in
    let ws = array_owned task-row (λ e. Fits awaited_widths (awaited_numbers e)) awaited-owned 16 t.tasks _ f.0 in
    let ss = array_owned sub-row FitsSub sub-owned 8 t.rest.subs _ g.1.1.1.1.1.1.1.0 in
    let ms = array_owned message-row (λ m. Fits message_widths (message_numbers m)) message_owned 32 t.rest.messages _ g.1.1.1.1.1.1.1.1.0 in
    let ml = array_owned mail-row (λ x. Fits mail_widths (mail_numbers x)) mail-owned 16 t.rest.mail _ g.1.1.1.1.1.1.1.1.1.1.0 in
    record {
      sizes = record {
        tasks = ts.0;
        queue = qs.0;
        alarms = al.0;
        pool = rs.0;
        subs = ss.0;
        lines = line-sizes t.rest.subs ss.1;
        messages = ms.0;
        mail = ml.0;
      };
      tasks = ts.1;
      queue = qs.1;
      head = (omega arith, (omega arith, (omega arith, (omega arith, (omega arith, (omega arith, tt))))));
      alarms = al.1;
      pool = rs.1;
      levels = (omega arith, tt);
      awaited = ws.1;
      subs = ss.1;
      messages = ms.1;
      sent = (omega arith, tt);
      mail = ml.1;
    }

pub mended-owned : (x : Mended) (vs : List Val) → Is (row mended-type) x vs → FitsTable x.table
mended-owned x vs q = let f = owed mended-type mended-laws x vs q in table-owned x.table _ f.1.0
