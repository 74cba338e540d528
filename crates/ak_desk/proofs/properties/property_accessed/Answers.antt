-- The command is on the property that the specifier names.
use Rattle.std.proofs.Common.{◌≡◌, ℕ, Bool, if◌then◌else◌, Some, Option, Result, Ok, Err, IfOk, ap, sym, ◌∙◌, eq-eqb, arith}
use Rattle.ak_base.specs.declared.error.KitError.TheVariants as error
use Rattle.ak_base.specs.declared.no_memory.NoMemory.{NoMemory}
use Rattle.ak_handler.specs.Handlers.{HandlersData}
use Rattle.ak_message.specs.declared.specifier.Specifier.{Specifier}
use Rattle.ak_message.specs.Message.{MessageData}
use Rattle.ak_message.specs.Specifier.{specifier_of}
use Rattle.ak_specifier.specs.Current.{left_of, current_of}
use Rattle.ak_action.specs.declared.row.DeskRow.{DeskRow}
use Rattle.ak_action.specs.Properties.{access_at}
use Rattle.ak_desk.specs.Properties.{accessed, on_property, property_accessed, refused_with, row_in}
use Rattle.ak_desk.specs.Replies.{error_reply}
use Rattle.ak_desk.proofs.properties.property_accessed.Goals as goal

on_it : (h new : HandlersData DeskRow) (token place : ℕ) (m : MessageData) (sp : Specifier) (r : Result MessageData NoMemory) → Some sp ≡ current_of m → left_of m ≡ 1 → IfOk r (λ reply. accessed h token (access_at (row_in h token).elements place m.what sp.at m) ≡ record { handlers = new; reply = reply }) → IfOk r (λ reply. property_accessed h token place m ≡ record { handlers = new; reply = reply })
on_it h new token place m sp (Err e) is one done = tt
on_it h new token place m sp (Ok reply) is one done =
    ap (λ (o : Option Specifier). on_property h token place m o) (sym is)
    ∙ ap (λ (b : Bool). if b then accessed h token (access_at (row_in h token).elements place m.what sp.at m) else refused_with h (error_reply error.BadScriptSyntax)) (eq-eqb (left_of m) 1 one)
    ∙ done

pub returns-clause-ok : goal.returns-clause-ok
returns-clause-ok c =
    let one : left_of c.args.m.now ≡ 1 = omega (arith, c.left.ensures) in
    on_it c.args.handlers.now c.accessed.new.handlers c.args.token c.args.place c.args.m.now (specifier_of c.in-Ok.specifier) c.accessed.result c.in-Ok.ensures one c.accessed.ensures.ok
