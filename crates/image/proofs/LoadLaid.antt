-- Bytes that are a table's image load to it, whatever its numbers are: so they are an image, and hold it.
use Prim.Native.Nat.{ℕ, ◌+◌, ◌*◌, ◌<◌}
use mathlib.Core.Path.{◌≡◌, refl, sym, ap, ◌∙◌}
use mathlib.Core.List.{List, [], ◌∷◌}
use native.Mathlib.Omega.{arith}
use borrow.Author.Tests.{eq-eqb}
use lib.ListN.{length, get_or}
use lib.Seq.{get_or-append-add}
use Rattle.records.specs.Numbers.{cut}
use Rattle.records.proofs.Numbers.{number-back}
use Rattle.executive.specs.declared.Table.{Table}
use Rattle.executive.specs.Places.{nobody, never, no_task, no_request}
use Rattle.executive.specs.Subprograms.{no_subprogram}
use Rattle.executive.specs.Messages.{no_message, no_mail}
use Rattle.image.specs.Blocks.{row, blocks}
use Rattle.image.specs.Image.{head_widths, request_widths, levels_widths, message_widths, sent_widths, mail_widths}
use Rattle.image.specs.Image.{head_numbers, levels_numbers, sent_numbers}
use Rattle.image.specs.Image.{place_bytes, head_bytes, request_bytes, levels_bytes, message_bytes, mail_bytes}
use Rattle.image.specs.Image.{request_of, message_of, mail_of, table_of, task_from, place_from, line_from, alarm_from, request_from, sub_from, message_from, mail_from}
use Rattle.image.specs.Image.{image_length, image_of, load_of, is_image_of}
use Rattle.image.specs.EntryPoints.{Holds}
use Rattle.image.specs.Laid.{Laid}
use Rattle.image.proofs.Alike.{same_self}
use Rattle.image.proofs.Spans.{Wide, each_all, blocks-are}
use Rattle.image.proofs.Trips.{image-length}
use Rattle.image.proofs.Joined.{row_read}
use Rattle.image.proofs.Parts.{read-laid}
use Rattle.image.proofs.ReadOff.{cut_agree, place_read, alarm-read, task-read}
use Rattle.image.proofs.RestLaid.{sub_read}

module _ {s : List ℕ} (t : Table) (l : Laid s t) where
  head-cut : cut head_widths 432 s ≡ head_numbers t
  head-cut =
      cut_agree head_widths 432 0 s (head_bytes t) (λ j g. let y : 0 + j ≡ j = omega arith in read-laid 2 t l j (omega arith) g ∙ ap (λ k. get_or (head_bytes t) k 0) (sym y))
      ∙ (λ j. t.ready ∷ t.rest.count ∷ t.rest.granule ∷ t.rest.queued ∷ number-back 7 t.rest.clock.0 j ∷ number-back 3 t.rest.flags j ∷ [])

  levels-cut : cut levels_widths 896 s ≡ levels_numbers t
  levels-cut =
      cut_agree levels_widths 896 0 s (levels_bytes t) (λ j g. let y : 0 + j ≡ j = omega arith in read-laid 5 t l j (omega arith) g ∙ ap (λ k. get_or (levels_bytes t) k 0) (sym y))
      ∙ (λ j. number-back 1 t.levels j ∷ [])

  sent-cut : cut sent_widths 1410 s ≡ sent_numbers t.rest
  sent-cut = ap (λ (n : ℕ). n ∷ []) (read-laid 9 t l 0 (omega arith) (omega arith))

  pub request_read : (i : ℕ) → i < 32 → request_from s (704 + i * 6) ≡ get_or t.rest.pool i no_request
  request_read i h =
      let n = l.sizes.pool in
      let e = get_or t.rest.pool i no_request in
      ap request_of
      (cut_agree request_widths (704 + i * 6) 0 s (request_bytes e)
      (λ j g.
      let z : 704 + i * 6 + j ≡ 704 + (i * 6 + j) = omega arith in
      let y : 0 + j ≡ j = omega arith in
      ap (λ k. get_or s k 0) z
      ∙ read-laid 4 t l (i * 6 + j) (omega arith) (omega arith)
      ∙ row_read request_bytes 6 t.rest.pool (each_all (Wide request_bytes 6) (λ x. refl) t.rest.pool) i no_request j (omega arith) g
      ∙ ap (λ k. get_or (request_bytes e) k 0) (sym y))
      ∙ (λ j. e.target.0 ∷ e.priority ∷ number-back 1 e.argument j ∷ e.start_waiter.0 ∷ e.end_waiter.0 ∷ []))

  pub message_read : (i : ℕ) → i < 32 → message_from s (1058 + i * 11) ≡ get_or t.rest.messages i no_message
  message_read i h =
      let n = l.sizes.messages in
      let e = get_or t.rest.messages i no_message in
      ap message_of
      (cut_agree message_widths (1058 + i * 11) 0 s (message_bytes e)
      (λ j g.
      let z : 1058 + i * 11 + j ≡ 1058 + (i * 11 + j) = omega arith in
      let y : 0 + j ≡ j = omega arith in
      ap (λ k. get_or s k 0) z
      ∙ read-laid 8 t l (i * 11 + j) (omega arith) (omega arith)
      ∙ row_read message_bytes 11 t.rest.messages (each_all (Wide message_bytes 11) (λ x. refl) t.rest.messages) i no_message j (omega arith) g
      ∙ ap (λ k. get_or (message_bytes e) k 0) (sym y))
      ∙ (λ j. e.to.0 ∷ e.sender.0 ∷ e.priority ∷ number-back 7 e.text.0 j ∷ []))

  mail-read : (i : ℕ) → i < 16 → mail_from s (1411 + i * 9) ≡ get_or t.rest.mail i no_mail
  mail-read i h =
      let n = l.sizes.mail in
      let e = get_or t.rest.mail i no_mail in
      ap mail_of
      (cut_agree mail_widths (1411 + i * 9) 0 s (mail_bytes e)
      (λ j g.
      let z : 1411 + i * 9 + j ≡ 1411 + (i * 9 + j) = omega arith in
      let y : 0 + j ≡ j = omega arith in
      ap (λ k. get_or s k 0) z
      ∙ read-laid 10 t l (i * 9 + j) (omega arith) (omega arith)
      ∙ row_read mail_bytes 9 t.rest.mail (each_all (Wide mail_bytes 9) (λ x. refl) t.rest.mail) i no_mail j (omega arith) g
      ∙ ap (λ k. get_or (mail_bytes e) k 0) (sym y))
      ∙ (λ j. e.sender.0 ∷ number-back 7 e.text.0 j ∷ []))

  pub sub-line : (m i : ℕ) → m < 8 → i < 16 → get_or s (914 + m * 18 + 2 + i) 0 ≡ (get_or (get_or t.rest.subs m no_subprogram).line i nobody).0
  sub-line m i h g =
      let x = get_or t.rest.subs m no_subprogram in
      let k = l.sizes.lines m in
      let z : 914 + m * 18 + 2 + i ≡ 914 + m * 18 + (2 + i) = omega arith in
      let y : i ≡ i * 1 + 0 = omega arith in
      ap (λ n. get_or s n 0) z
      ∙ sub_read t l m (2 + i) h (omega arith)
      ∙ get_or-append-add (x.holder.0 ∷ x.waiting ∷ []) (row place_bytes x.line) i 0
      ∙ ap (λ n. get_or (row place_bytes x.line) n 0) y
      ∙ row_read place_bytes 1 x.line (each_all (Wide place_bytes 1) (λ a. refl) x.line) i nobody 0 (omega arith) (omega arith)

  sub-from : (m : ℕ) → m < 8 → sub_from s (914 + m * 18) ≡ get_or t.rest.subs m no_subprogram
  sub-from m h =
      let x = get_or t.rest.subs m no_subprogram in
      let z : 914 + m * 18 ≡ 914 + m * 18 + 0 = omega arith in
      let a : get_or s (914 + m * 18) 0 ≡ x.holder.0 = ap (λ n. get_or s n 0) z ∙ sub_read t l m 0 h (omega arith) in
      let b : get_or s (914 + m * 18 + 1) 0 ≡ x.waiting = sub_read t l m 1 h (omega arith) in
      let c : line_from s (914 + m * 18 + 2) ≡ x.line =
      blocks-are (place_from s) 1 x.line nobody 16 (914 + m * 18 + 2) (l.sizes.lines m)
      (λ i g.
      let y : 914 + m * 18 + 2 + i * 1 ≡ 914 + m * 18 + 2 + i = omega arith in
      ap (place_from s) y ∙ (λ j. record { 0 = sub-line m i h g j })) in
      λ j. record { holder = record { 0 = a j }; line = c j; waiting = b j }

  pub load_laid : load_of s ≡ t
  unfolding load_of
  load_laid =
      let z = l.sizes in
      let et : blocks (task_from s) 1 16 0 ≡ t.tasks =
      blocks-are (task_from s) 1 t.tasks no_task 16 0 z.tasks (λ i g. let y : 0 + i * 1 ≡ i = omega arith in ap (task_from s) y ∙ task-read t l i g) in
      let eq : line_from s 416 ≡ t.queue =
      blocks-are (place_from s) 1 t.queue nobody 16 416 z.queue (λ i g. let y : 416 + i * 1 ≡ 416 + i = omega arith in ap (place_from s) y ∙ (λ j. record { 0 = place_read t l i g j })) in
      let ea : blocks (alarm_from s) 8 32 448 ≡ t.rest.alarms =
      blocks-are (alarm_from s) 8 t.rest.alarms never 32 448 z.alarms (λ i g. (λ j. record { 0 = alarm-read t l i g j })) in
      let ep = blocks-are (request_from s) 6 t.rest.pool no_request 32 704 z.pool request_read in
      let es = blocks-are (sub_from s) 18 t.rest.subs no_subprogram 8 914 z.subs sub-from in
      let em = blocks-are (message_from s) 11 t.rest.messages no_message 32 1058 z.messages message_read in
      let el = blocks-are (mail_from s) 9 t.rest.mail no_mail 16 1411 z.mail mail-read in
      λ j. table_of (head-cut j) (et j) (eq j) (ea j) (ep j) (levels-cut j) (es j) (em j) (sent-cut j) (el j)

  pub laid-holds : Holds s t
  unfolding is_image_of
  laid-holds =
      let n : length s ≡ image_length = ap length l.image ∙ image-length t l.sizes in
      let e : image_of (load_of s) ≡ s = ap image_of load_laid ∙ sym l.image in
      record { image = rw (eq-eqb (length s) image_length n, e) (same_self s); loads = load_laid }
