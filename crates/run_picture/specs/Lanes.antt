-- The shapes of a lane.
use Rattle.std.specs.Prelude.{ℕ, ◌+◌, ◌-◌, List, [], ◌++◌, codes, decimal, flat_map, string_bytes, nat_lt, Option, Some, None, if◌then◌else◌, ◌==◌}
use Rattle.run_picture.specs.declared.lanes.Arrow.{Arrow}
use Rattle.run_picture.specs.declared.run.Mark.{Mark}
use Rattle.run_picture.specs.declared.run.Mark.TheVariants.{Granted, Refused, Waits}
use Rattle.run_picture.specs.declared.run.Call.{Call}
use Rattle.run_picture.specs.declared.run.End.{End}
use Rattle.run_picture.specs.declared.run.Lane.{Lane}
use Rattle.run_picture.specs.declared.run.Life.{Life}
use Rattle.run_picture.specs.declared.run.Wait.{Wait}
use Rattle.run_picture.specs.Layout.{across, down, width}
use Rattle.run_picture.specs.Words.{escaped, name_text, title_text}

unfoldable pub name_of_mark : Mark → List ℕ
name_of_mark Granted = codes "granted"
name_of_mark Refused = codes "refused"
name_of_mark Waits = codes "waits"

unfoldable pub use_text : List ℕ → ℕ → ℕ → List ℕ
use_text name x y =
    codes "<use href='#" ++ (name ++ (codes "' x='" ++ (decimal x ++ (codes "' y='" ++ (decimal y ++ codes "'>")))))

-- a mark in a lane at the place of an event
abbrev pub mark_text : ℕ → ℕ → List ℕ → List ℕ → List ℕ
mark_text lane place name title =
    use_text name (across place) (down lane) ++ (title_text title ++ codes "</use>\n")

unfoldable pub number_text : ℕ → ℕ → List ℕ
number_text x place = codes "<text class='place' x='" ++ (decimal x ++ (codes "' y='-8'>" ++ (decimal place ++ codes "</text>\n")))

unfoldable pub label_at : ℕ → List ℕ
label_at x = codes "<text class='label' transform='translate(" ++ (decimal x ++ codes " -24) rotate(-50)' dy='4'>")

-- the place of a call and its label, above the lanes
abbrev pub place_text : Call → List ℕ
place_text c =
    number_text (across c.place) c.place
    ++ (label_at (across c.place) ++ (escaped (string_bytes c.label) ++ codes "</text>\n"))

-- a call: its place, and its one mark, in its lane and at its event
abbrev pub call_text : ℕ → Call → List ℕ
call_text lane c = place_text c ++ mark_text lane c.place (name_of_mark c.mark) (string_bytes c.title)

-- the bar of a wait ends at the event that ended it, or else at the end of the run
abbrev pub end_of : ℕ → Option End → ℕ
end_of events None = width events
end_of events (Some e) = across e.place

unfoldable pub bar_line : ℕ → ℕ → ℕ → List ℕ
bar_line from y right =
    codes "<path class='bar' d='M" ++ (decimal from ++ (codes " " ++ (decimal y ++ (codes " H" ++ (decimal right ++ codes "'>")))))

abbrev pub bar_text : ℕ → ℕ → Wait → List ℕ
bar_text events lane w =
    bar_line (across w.place) (down lane) (end_of events w.end)
    ++ (title_text (string_bytes w.title) ++ codes "</path>\n")

-- an arrow to the next lane is straight
abbrev pub bend_of : ℕ → ℕ → ℕ
bend_of from to = if nat_lt (from - to + (to - from)) 2 then 0 else 20

-- an arrow goes from the mark of one lane to that of another, down or up
abbrev pub arrow_of : ℕ → ℕ → Arrow
arrow_of from to =
    if nat_lt from to
    then record { from = down from + 11; near = down to - 28; to = down to - 14; bend = bend_of from to }
    else record { from = down from - 11; near = down to + 28; to = down to + 14; bend = bend_of from to }

unfoldable pub class_of_arrow : End → List ℕ
class_of_arrow e = if e.is_by_clock then codes "clock" else codes "ends"

unfoldable pub start_text : List ℕ → ℕ → ℕ → List ℕ
start_text class x from =
    codes "<path class='"
    ++ (class ++ (codes "' marker-end='url(#tip)' d='M" ++ (decimal x ++ (codes " " ++ decimal from))))

-- a curve that bends to the right
unfoldable pub curve_text : ℕ → Arrow → List ℕ
curve_text x a =
    codes " C"
    ++ (decimal (x + a.bend)
    ++ (codes " "
    ++ (decimal a.from
    ++ (codes " "
    ++ (decimal (x + a.bend)
    ++ (codes " "
    ++ (decimal a.near ++ (codes " " ++ (decimal x ++ (codes " " ++ (decimal a.to ++ codes "'/>\n")))))))))))

-- from the lane of the call that ended a wait to the lane that waited, at the place of that event
abbrev pub arrow_text : ℕ → End → List ℕ
arrow_text lane e =
    start_text (class_of_arrow e) (across e.place) (arrow_of e.ender lane).from
    ++ curve_text (across e.place) (arrow_of e.ender lane)

abbrev pub end_text : ℕ → End → List ℕ
end_text lane e = arrow_text lane e ++ mark_text lane e.place (name_of_mark e.mark) (string_bytes e.title)

abbrev pub ended_text : ℕ → Option End → List ℕ
ended_text lane None = []
ended_text lane (Some e) = end_text lane e

abbrev pub wait_end_text : ℕ → Wait → List ℕ
wait_end_text lane w = ended_text lane w.end

-- a line that ends within the run has a stroke there
unfoldable pub stroke_of : Option ℕ → List ℕ
stroke_of None = []
stroke_of (Some place) = codes " m0 -6 v12"

-- it goes to the event that ended it, or else to the end of the run
abbrev pub right_of : ℕ → Option ℕ → ℕ
right_of events None = width events
right_of events (Some place) = across place

unfoldable pub line_text : ℕ → ℕ → ℕ → List ℕ → List ℕ
line_text left y right stroke =
    codes "<path class='lane' d='M"
    ++ (decimal left
    ++ (codes " " ++ (decimal y ++ (codes " H" ++ (decimal right ++ (stroke ++ codes "'/>\n"))))))

unfoldable pub process_at : ℕ → ℕ → ℕ → List ℕ
process_at left y pid =
    codes "<text class='process' x='"
    ++ (decimal left
    ++ (codes "' y='" ++ (decimal y ++ (codes "' dx='4' dy='-14'>process " ++ (decimal pid ++ codes "</text>\n")))))

-- above a line that begins within the run stands the number of its process
abbrev pub process_text : ℕ → Life → List ℕ
process_text y l = if l.place == 0 then [] else process_at (across l.place) y l.pid

abbrev pub life_text : ℕ → ℕ → Life → List ℕ
life_text events y l =
    line_text (across l.place) y (right_of events l.end) (stroke_of l.end) ++ process_text y l

-- a line for each life
abbrev pub lives_text : ℕ → ℕ → List Life → List ℕ
lives_text events y lives = flat_map (life_text events y) lives

-- the lines of a lane, and its name
abbrev pub lane_head : ℕ → Lane → List ℕ
lane_head events l =
    lives_text events (down l.number) l.lives.items ++ name_text (down l.number) (string_bytes l.name)

-- a bar for each wait
abbrev pub bars_text : ℕ → ℕ → List Wait → List ℕ
bars_text events lane waits = flat_map (bar_text events lane) waits

-- a mark for each call
abbrev pub calls_text : ℕ → List Call → List ℕ
calls_text lane calls = flat_map (call_text lane) calls

-- an arrow and a mark for each wait that ended
abbrev pub ends_text : ℕ → List Wait → List ℕ
ends_text lane waits = flat_map (wait_end_text lane) waits

abbrev pub lane_text : ℕ → Lane → List ℕ
lane_text events l =
    lane_head events l
    ++ (bars_text events l.number l.waits.items
    ++ (calls_text l.number l.calls.items ++ ends_text l.number l.waits.items))
