-- What is neither a task's entry nor the queue, made anew.
use Rattle.std.specs.Prelude.{ℕ, List}
use Rattle.executive.specs.declared.Millis.{Millis}
use Rattle.executive.specs.declared.Request.{Request}
use Rattle.executive.specs.declared.Sub.{Sub}
use Rattle.executive.specs.declared.Message.{Message}
use Rattle.executive.specs.declared.Mail.{Mail}
use Rattle.executive.specs.declared.Rest.{Rest}

-- ---- made anew: the clock, the flags, the alarms, the pool and the number of its requests; all else as it was
abbrev pub remade : Millis → ℕ → List Millis → List Request → ℕ → Rest → Rest
remade c fs al p n r = record {
  count = r.count;
  granule = r.granule;
  clock = c;
  flags = fs;
  alarms = al;
  pool = p;
  queued = n;
  subs = r.subs;
  messages = r.messages;
  sent = r.sent;
  mail = r.mail;
}

-- the same with other subprograms
abbrev pub with_subs : List Sub → Rest → Rest
with_subs ss r = record {
  count = r.count;
  granule = r.granule;
  clock = r.clock;
  flags = r.flags;
  alarms = r.alarms;
  pool = r.pool;
  queued = r.queued;
  subs = ss;
  messages = r.messages;
  sent = r.sent;
  mail = r.mail;
}

-- the same with other messages that wait, so many of them, and other mail
abbrev pub with_post : List Message → ℕ → List Mail → Rest → Rest
with_post ms n ml r = record {
  count = r.count;
  granule = r.granule;
  clock = r.clock;
  flags = r.flags;
  alarms = r.alarms;
  pool = r.pool;
  queued = r.queued;
  subs = r.subs;
  messages = ms;
  sent = n;
  mail = ml;
}
