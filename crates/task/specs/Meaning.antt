-- What a point, and the parts of a task, say.
use Rattle.std.specs.Prelude.{ℕ, List, map, take}
use Rattle.task.specs.declared.point.Point.{Point}
use Rattle.task.specs.declared.parameters.CacheParameters.{CacheParameters}
use Rattle.task.specs.Contents.{PointContents, TaskContents, point_with, task_with}

abbrev pub point_contents : Point → PointContents
point_contents p = point_with p.access (take p.count p.successors)

abbrev pub all_contents : List Point → List PointContents
all_contents ps = map point_contents ps

abbrev pub parts_contents : CacheParameters → List Point → List ℕ → TaskContents
parts_contents cache points evicting = task_with cache.sets cache.ways cache.reload (all_contents points) evicting
