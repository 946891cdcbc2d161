-- The plot of what changes in an object.
use Rattle.std.specs.Prelude.{ℕ, ◌+◌, List, [], ◌∷◌, ◌++◌, codes, decimal, flat_map, fold, string_bytes, nat_lt, Option, Some, None, if◌then◌else◌}
use Rattle.run_picture.specs.declared.run.Point.{Point}
use Rattle.run_picture.specs.declared.run.Series.{Series}
use Rattle.run_picture.specs.Layout.{across, fall, plot_top, width}
use Rattle.run_picture.specs.Words.{escaped, name_text}

abbrev pub larger : ℕ → Point → ℕ
larger most p = if nat_lt most p.value then p.value else most

-- the largest value of some points
abbrev pub largest : List Point → ℕ
largest points = fold larger 0 points

abbrev pub first_place : List Point → ℕ
first_place [] = 0
first_place (p ∷ points) = p.place

-- a step: to the place of its event, and to its value
unfoldable pub step_text : ℕ → ℕ → Point → List ℕ
step_text top most p =
    codes " H" ++ (decimal (across p.place) ++ (codes " V" ++ decimal (top + fall p.value most)))

abbrev pub step_texts : ℕ → ℕ → List Point → List ℕ
step_texts top most points = flat_map (step_text top most) points

unfoldable pub begin_text : ℕ → List Point → List ℕ
begin_text top points =
    codes "M" ++ (decimal (across (first_place points)) ++ (codes " " ++ decimal (top + 32)))

-- from 0 at the first point to each value in turn
abbrev pub path_text : ℕ → ℕ → List Point → List ℕ
path_text top most points = begin_text top points ++ step_texts top most points

-- the steps end at the event that removed the object, or else at the end of the run
abbrev pub right_end : ℕ → Option ℕ → ℕ
right_end events None = width events
right_end events (Some place) = across place

unfoldable pub close_text : ℕ → ℕ → List ℕ
close_text top right = codes " H" ++ (decimal right ++ (codes " V" ++ decimal (top + 32)))

unfoldable pub part_at : ℕ → List ℕ
part_at y = codes "<text class='part' x='-14' y='" ++ (decimal y ++ codes "' dy='4'>")

unfoldable pub most_text : ℕ → List ℕ
most_text most = codes ", largest " ++ (decimal most ++ codes "</text>\n")

-- what is shown, and its largest value
abbrev pub names_text : ℕ → ℕ → Series → List ℕ
names_text top most s =
    name_text (top + 8) (string_bytes s.object)
    ++ (part_at (top + 24) ++ (escaped (string_bytes s.part) ++ most_text most))

-- the lines of 0 and of the largest value
unfoldable pub frame_text : ℕ → ℕ → List ℕ
frame_text top right =
    codes "<path class='lane' d='M0 "
    ++ (decimal (top + 32)
    ++ (codes " H"
    ++ (decimal right
    ++ (codes " M0 " ++ (decimal top ++ (codes " H" ++ (decimal right ++ codes "'/>\n<path class='steps' d='")))))))

abbrev pub plot_text : ℕ → ℕ → ℕ → Series → List ℕ
plot_text top events most s =
    names_text top most s
    ++ (frame_text top (width events)
    ++ (path_text top most s.points.items ++ (close_text top (right_end events s.removed) ++ codes "'/>\n")))

-- below as many lanes, over as many events
abbrev pub series_text : ℕ → ℕ → Series → List ℕ
series_text lanes events s = plot_text (plot_top lanes s.number) events (largest s.points.items) s
